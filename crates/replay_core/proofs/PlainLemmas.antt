-- Lines carried out one after another.
use Rattle.std.proofs.Common.{◌≡◌, Bool, true, false, ℕ, List, [], ◌∷◌, ◌++◌, map, refl, sym, ap, subst, ◌∙◌, append_assoc}
use Rattle.std.proofs.lemmas.Bool.{true≢false}
use Rattle.std.proofs.lemmas.List.{append-nil, map-append}
use Rattle.gl_memory.specs.ClientMemory.{memory_of, written}
use Rattle.gl_memory.specs.Room.{RoomView}
use Rattle.gl_memory.specs.Segment.{AreBytes}
use Rattle.gl_words.specs.Call.{IsInRange, is_answering}
use Rattle.gl_words.specs.declared.call.Call.{Call}
use Rattle.gl_words.specs.declared.call.Call.TheVariants.{ActiveTexture, BindBuffer, ClientActiveTexture, ColorPointer, DeleteBuffers, DisableClientState, EnableClientState, MatrixMode, NormalPointer, PixelStorei, PopMatrix, PushMatrix, TexCoordPointer, VertexPointer}
use Rattle.gl_tracked.specs.declared.tracked.Tracked.{Tracked}
use Rattle.gl_tracked.specs.Step.{tracked_after}
use Rattle.gl_tracked.proofs.Stepping.{may_set, tracked_after-others}
use Rattle.driver_trait.specs.Driver.{IsDriver, Steps}
use Rattle.driver_trait.specs.Output.{memory_after}
use Rattle.driver_trait.specs.Reply.{Replied, Nothing}
use Rattle.script_reader.specs.declared.script.Act.{Act}
use Rattle.script_reader.specs.declared.script.Act.TheVariants.{Mem, Image, Gl}
use Rattle.script_reader.specs.declared.script.Line.{Line}
use Rattle.replay_lines.specs.Lines.{Ran, Standing, after_act, after_lines, told_at, told_by_lines, StepsAt, StepsThrough}
use Rattle.replay_lines.specs.Results.{DoneView, Shown, Picture, taken_bytes, told_of}
use Rattle.replay_lines.proofs.LinesLemmas.{after_lines-append, after_lines-one, after_lines-nil, told_by_lines-append, told_by_lines-one, told_by_lines-nil, StepsThrough-append, StepsThrough-one, StepsThrough-nil}
use Rattle.replay_core.specs.Plain.{CarriesOut, PlainView, standing_by}

-- a call that is answered sets no tracked state
answering_sets_nothing : (call : Call) → is_answering call ≡ true → may_set call ≡ false
unfolding is_answering
answering_sets_nothing (ActiveTexture texture) asks = absurd (true≢false (sym asks))
answering_sets_nothing (BindBuffer target buffer) asks = absurd (true≢false (sym asks))
answering_sets_nothing (ClientActiveTexture texture) asks = absurd (true≢false (sym asks))
answering_sets_nothing (ColorPointer size kind stride pointer) asks = absurd (true≢false (sym asks))
answering_sets_nothing (DeleteBuffers n names) asks = absurd (true≢false (sym asks))
answering_sets_nothing (DisableClientState array) asks = absurd (true≢false (sym asks))
answering_sets_nothing (EnableClientState array) asks = absurd (true≢false (sym asks))
answering_sets_nothing (MatrixMode mode) asks = absurd (true≢false (sym asks))
answering_sets_nothing (NormalPointer kind stride pointer) asks = absurd (true≢false (sym asks))
answering_sets_nothing (PixelStorei pname param) asks = absurd (true≢false (sym asks))
answering_sets_nothing PopMatrix asks = absurd (true≢false (sym asks))
answering_sets_nothing PushMatrix asks = absurd (true≢false (sym asks))
answering_sets_nothing (TexCoordPointer size kind stride pointer) asks = absurd (true≢false (sym asks))
answering_sets_nothing (VertexPointer size kind stride pointer) asks = absurd (true≢false (sym asks))
answering_sets_nothing _ asks = refl

-- nothing is written of no reply
memory_after-nothing : (tracked : Tracked) (call : Call) (memory : List ℕ) → memory_after tracked call Nothing memory ≡ memory
unfolding memory_after
memory_after-nothing tracked call memory = refl

module _ {S : Type 0} (tracked : S → Tracked) (steps : Steps S) (laws : IsDriver tracked steps) (driver driver2 : S) (call : Call) (reply : Replied) (memory : List ℕ)
    (in_range : IsInRange call) (bytes : AreBytes (memory_of memory)) (step : steps driver call (memory_of memory) driver2 reply) where
  written_by : (answers : Bool) → is_answering call ≡ answers → memory_after (tracked driver2) call reply memory ≡ memory_after (tracked driver) call reply memory
  written_by true asks =
      let left : tracked driver2 ≡ tracked driver =
      laws.follows driver call (memory_of memory) driver2 reply in_range bytes step
      ∙ sym (tracked_after-others (tracked driver) call (memory_of memory) (answering_sets_nothing call asks)) in
      ap (λ (t : Tracked). memory_after t call reply memory) left
  written_by false silent =
      let none : reply ≡ Nothing = laws.replies driver call (memory_of memory) driver2 reply in_range bytes silent step in
      ap (λ (r : Replied). memory_after (tracked driver2) call r memory) none
      ∙ memory_after-nothing (tracked driver2) call memory
      ∙ sym (memory_after-nothing (tracked driver) call memory)
      ∙ ap (λ (r : Replied). memory_after (tracked driver) call r memory) (sym none)

  -- where a call asks for nothing, memory stays as it is
  pub unwritten : is_answering call ≡ false → memory ≡ memory_after (tracked driver2) call reply memory
  unwritten silent =
      let none : reply ≡ Nothing = laws.replies driver call (memory_of memory) driver2 reply in_range bytes silent step in
      sym (ap (λ (r : Replied). memory_after (tracked driver2) call r memory) none ∙ memory_after-nothing (tracked driver2) call memory)

  -- a reply is written by the tracked state after its call as by that before it
  pub written_after : memory_after (tracked driver2) call reply memory ≡ memory_after (tracked driver) call reply memory
  written_after = written_by (is_answering call) refl

module _ {S : Type 0} (tracked : S → Tracked) (steps : Steps S) where
  pub CarriesOut-nil : (old : PlainView S) → CarriesOut tracked steps [] old old
  CarriesOut-nil old =
      let here = standing_by tracked old in
      record {
        ran = [];
        each = refl;
        told = sym (append-nil old.told) ∙ ap (λ (more : List DoneView). old.told ++ more) (sym (told_by_lines-nil here));
        stand = sym (after_lines-nil here);
        leads = StepsThrough-nil tracked steps here old.driver;
      }

  pub CarriesOut-then : (lines others : List Line) (old mid new : PlainView S) → CarriesOut tracked steps lines old mid → CarriesOut tracked steps others mid new → CarriesOut tracked steps (lines ++ others) old new
  CarriesOut-then lines others old mid new one two =
      let line_of : Ran → Line = λ ran. ran.line in
      let here = standing_by tracked old in
      let there = standing_by tracked mid in
      let first = told_by_lines here one.ran in
      record {
        ran = one.ran ++ two.ran;
        each = map-append line_of one.ran two.ran ∙ ap (λ (l : List Line). l ++ map line_of two.ran) one.each ∙ ap (λ (l : List Line). lines ++ l) two.each;
        told = two.told
            ∙ ap (λ (t : List DoneView). t ++ told_by_lines there two.ran) one.told
            ∙ append_assoc old.told first (told_by_lines there two.ran)
            ∙ ap (λ (s : Standing). old.told ++ (first ++ told_by_lines s two.ran)) one.stand
            ∙ ap (λ (t : List DoneView). old.told ++ t) (sym (told_by_lines-append here one.ran two.ran));
        stand = two.stand ∙ ap (λ (s : Standing). after_lines s two.ran) one.stand ∙ sym (after_lines-append here one.ran two.ran);
        leads = StepsThrough-append tracked steps here one.ran two.ran old.driver mid.driver new.driver one.leads
            (subst (λ (s : Standing). StepsThrough tracked steps s two.ran mid.driver new.driver) one.stand two.leads);
      }

  -- what CarriesOut says, of one line that does this and has this reply
  record CarriesAct (number context : ℕ) (reply : Replied) (old new : PlainView S) (act : Act) : Type 0 where
    told : new.told ≡ old.told ++ told_at old.memory number context act reply
    stand : standing_by tracked new ≡ after_act (standing_by tracked old) act reply
    leads : StepsAt tracked steps (standing_by tracked old) act reply old.driver new.driver

  CarriesOut-one : (line : Line) (act : Act) (reply : Replied) (old new : PlainView S) → line.act ≡ act → CarriesAct line.number line.context reply old new act → CarriesOut tracked steps (line ∷ []) old new
  CarriesOut-one line act reply old new is_act carried =
      let carries = subst (λ (a : Act). CarriesAct line.number line.context reply old new a) (sym is_act) carried in
      let one : Ran = record { line = line; reply = reply } in
      let here = standing_by tracked old in
      record {
        ran = one ∷ [];
        each = refl;
        told = carries.told ∙ ap (λ (told : List DoneView). old.told ++ told) (sym (told_by_lines-one here one));
        stand = carries.stand ∙ sym (after_lines-one here one);
        leads = StepsThrough-one tracked steps here one old.driver new.driver carries.leads;
      }

  -- a line that writes client memory
  pub CarriesOut-mem : (line : Line) (at from : ℕ) (bytes : RoomView ℕ) (slice : List ℕ) (driver : S) (memory memory2 : List ℕ) (told : List DoneView)
      → line.act ≡ Mem at bytes → from ≡ at → slice ≡ bytes.items → memory2 ≡ written memory from slice
      → CarriesOut tracked steps (line ∷ []) (record { driver = driver; memory = memory; told = told }) (record { driver = driver; memory = memory2; told = told })
  CarriesOut-mem line at from bytes slice driver memory memory2 told is_mem same_place same_bytes wrote =
      let same : memory2 ≡ written memory at bytes.items = wrote ∙ ap (λ (n : ℕ). written memory n slice) same_place ∙ ap (λ (b : List ℕ). written memory at b) same_bytes in
      CarriesOut-one line (Mem at bytes) Nothing _ _ is_mem (record {
        told = sym (append-nil told);
        stand = ap (λ (m : List ℕ). let s : Standing = record { tracked = tracked driver; memory = m } in s) same;
        leads = (refl, refl);
      })

  -- a line that takes an image
  pub CarriesOut-image : (line : Line) (name : List ℕ) (width height at : ℕ) (shown : Shown) (driver : S) (memory : List ℕ) (told told2 : List DoneView)
      → line.act ≡ Image name width height at → shown ≡ Picture name width height (taken_bytes memory width height at)
      → told2 ≡ told ++ record { number = line.number; context = line.context; shown = shown } ∷ []
      → CarriesOut tracked steps (line ∷ []) (record { driver = driver; memory = memory; told = told }) (record { driver = driver; memory = memory; told = told2 })
  CarriesOut-image line name width height at shown driver memory told told2 is_image taken added =
      let told_with : Shown → List DoneView = λ s. record { number = line.number; context = line.context; shown = s } ∷ [] in
      CarriesOut-one line (Image name width height at) Nothing _ _ is_image (record {
        told = added ∙ ap (λ (s : Shown). told ++ told_with s) taken;
        stand = refl;
        leads = (refl, refl);
      })

  -- a line that makes a call, from a value that is seen so
  pub CarriesOut-call : IsDriver tracked steps → (old : PlainView S) (line : Line) (call : Call) (reply : Replied) (driver driver2 : S) (shown : Tracked) (memory memory2 : List ℕ) (told told2 : List DoneView)
      → record { driver = driver; memory = memory; told = told } ≡ old → line.act ≡ Gl call → IsInRange call → AreBytes (memory_of memory)
      → steps driver call (memory_of memory) driver2 reply → shown ≡ tracked driver2 → memory2 ≡ memory_after shown call reply memory
      → told2 ≡ told ++ told_of line.number line.context call reply
      → CarriesOut tracked steps (line ∷ []) old (record { driver = driver2; memory = memory2; told = told2 })
  CarriesOut-call laws old line call reply driver driver2 shown memory memory2 told told2 view_is is_call in_range bytes step is_shown wrote added =
      let new : PlainView S = record { driver = driver2; memory = memory2; told = told2 } in
      let kept : tracked driver2 ≡ tracked_after (tracked driver) call (memory_of memory) = laws.follows driver call (memory_of memory) driver2 reply in_range bytes step in
      let written : memory2 ≡ memory_after (tracked driver) call reply memory =
      wrote ∙ ap (λ (t : Tracked). memory_after t call reply memory) is_shown ∙ written_after tracked steps laws driver driver2 call reply memory in_range bytes step in
      subst (λ (p : PlainView S). CarriesOut tracked steps (line ∷ []) p new) view_is
      (CarriesOut-one line (Gl call) reply _ new is_call (record {
        told = added;
        stand = ap (λ (t : Tracked). let s : Standing = record { tracked = t; memory = memory2 } in s) kept
            ∙ ap (λ (m : List ℕ). let s : Standing = record { tracked = tracked_after (tracked driver) call (memory_of memory); memory = m } in s) written;
        leads = (refl, step);
      }))
