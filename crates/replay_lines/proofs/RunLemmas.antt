-- Lines run one after another, and where memory was wanting.
use Rattle.std.proofs.Common.{◌≡◌, inl, inr, Bool, true, false, ℕ, List, [], ◌∷◌, ◌++◌, map, refl, sym, ap, subst, ◌∙◌, append_assoc, Option, Result, Ok, Err, OnOk, OnErr, if◌then◌else◌}
use Rattle.std.proofs.lemmas.List.{append-nil, map-append}
use Rattle.gl_words.specs.Call.{is_answering}
use Rattle.gl_words.specs.declared.call.Call.{Call}
use Rattle.gl_memory.specs.ClientMemory.{written}
use Rattle.gl_memory.specs.Room.{RoomView}
use Rattle.batch_pack.specs.Spelling.{Spelled}
use Rattle.client_shadow.specs.Cutting.{Issued}
use Rattle.client_shadow.specs.Class as classes
use Rattle.gl_tracked.specs.declared.tracked.Tracked.{Tracked}
use Rattle.driver_trait.specs.Driver.{Steps}
use Rattle.driver_trait.specs.Reply.{Replied, Nothing}
use Rattle.gl_front.specs.Front.{FrontView, StandsFor, KnowsTracked}
use Rattle.gl_front.specs.Taking.{TakesCall, RefusesCall}
use Rattle.script_reader.specs.declared.script.Act.{Act}
use Rattle.script_reader.specs.declared.script.Act.TheVariants.{Mem, Image, Gl}
use Rattle.script_reader.specs.declared.script.Line.{Line}
use Rattle.replay_lines.specs.Lines.{Ran, Standing, after_act, after_lines, told_at, told_by_lines, StepsAt, StepsThrough}
use Rattle.replay_lines.specs.Moments.{Moment, moments_at, moments_by, issued_in, issued_by_lines}
use Rattle.replay_lines.specs.Results.{DoneView, Shown, Answer, Picture, printed, told_of, taken_bytes}
use Rattle.replay_lines.specs.Running.{CountsOn, TellsOn, RunsOn, StopsAt, StopsOn, standing_of}
use Rattle.replay_lines.proofs.Countings.{CountsOn-nil, CountsOn-one, CountsOn-then, TellsOn-nil, TellsOn-one, TellsOn-then}
use Rattle.replay_lines.proofs.LinesLemmas.{after_lines-append, after_lines-one, after_lines-nil, told_by_lines-append, told_by_lines-one, told_by_lines-nil, moments_by-append, moments_by-one, moments_by-nil, StepsThrough-append, StepsThrough-one, StepsThrough-nil}

-- a fact that always holds, on Err
pub OnErr-always : {T E P : Type 0} (result : Result T E) → P → OnErr result P
OnErr-always (Ok value) p = tt
OnErr-always (Err refusal) p = p

-- what was added or not is an addition
pub added_or_not : {T E : Type 0} (result : Result T E) (old new more : List DoneView) → OnOk result (new ≡ old ++ more) → OnErr result (new ≡ old) → (added : List DoneView) × (new ≡ old ++ added)
added_or_not (Ok value) old new more added same = (more, added)
added_or_not (Err refusal) old new more added same = ([], same ∙ sym (append-nil old))

-- a call that asks for nothing tells nothing
pub nothing_told : (number context : ℕ) (call : Call) (reply : Replied) (told : List DoneView) → is_answering call ≡ false → told ≡ told ++ told_of number context call reply
nothing_told number context call reply told silent =
    let answer : List DoneView = record { number = number; context = context; shown = Answer call (printed call reply) } ∷ [] in
    sym (append-nil told) ∙ ap (λ (asks : Bool). told ++ (if asks then answer else [])) (sym silent)

module _ {R S : Type 0} (tracked : S → Tracked) (steps : Steps S) (stands : R → S → Type 0) (journal : R → Option (List (List Spelled))) where
  -- what RunsOn says, of one line that does this and has this reply
  pub record ActRuns (number context : ℕ) (reply : Replied) (old new : FrontView R) (old_told new_told : List DoneView) (act : Act) : Type 0 where
    pub told : new_told ≡ old_told ++ told_at old.memory number context act reply
    pub stand : standing_of new ≡ after_act (standing_of old) act reply
    pub leads : (st2 : S) → StandsFor stands steps new st2 → (st : S) × StandsFor stands steps old st × StepsAt tracked steps (standing_of old) act reply st st2
    pub counts : CountsOn old.size old.calls new.calls (map (issued_in old.size) (moments_at (standing_of old) act)) old.counts new.counts
    pub batches : TellsOn old.size old.calls new.calls (map (issued_in old.size) (moments_at (standing_of old) act)) (journal old.rail) (journal new.rail)
    pub size : new.size ≡ old.size

  pub RunsOn-one : (line : Line) (reply : Replied) (old new : FrontView R) (old_told new_told : List DoneView) → ActRuns line.number line.context reply old new old_told new_told line.act → RunsOn tracked steps stands journal (line ∷ []) old new old_told new_told
  RunsOn-one line reply old new old_told new_told runs =
      let one : Ran = record { line = line; reply = reply } in
      let here = standing_of old in
      let issued : List Moment → List Issued = λ moments. map (issued_in old.size) moments in
      record {
        ran = one ∷ [];
        each = refl;
        told = runs.told ∙ ap (λ (told : List DoneView). old_told ++ told) (sym (told_by_lines-one here one));
        stand = runs.stand ∙ sym (after_lines-one here one);
        leads = λ st2 stood.
            let before = runs.leads st2 stood in
            (before.0, before.1, StepsThrough-one tracked steps here one before.0 st2 before.2);
        counts = subst (λ (m : List Moment). CountsOn old.size old.calls new.calls (issued m) old.counts new.counts) (sym (moments_by-one here one)) runs.counts;
        batches = subst (λ (m : List Moment). TellsOn old.size old.calls new.calls (issued m) (journal old.rail) (journal new.rail)) (sym (moments_by-one here one)) runs.batches;
        size = runs.size;
      }

  pub RunsOn-nil : (front : FrontView R) (told : List DoneView) → RunsOn tracked steps stands journal [] front front told told
  RunsOn-nil front told =
      let here = standing_of front in
      let issued : List Moment → List Issued = λ moments. map (issued_in front.size) moments in
      record {
        ran = [];
        each = refl;
        told = sym (append-nil told) ∙ ap (λ (more : List DoneView). told ++ more) (sym (told_by_lines-nil here));
        stand = sym (after_lines-nil here);
        leads = λ st2 stood. (st2, stood, StepsThrough-nil tracked steps here st2);
        counts = subst (λ (m : List Moment). CountsOn front.size front.calls front.calls (issued m) front.counts front.counts) (sym (moments_by-nil here)) (CountsOn-nil front.size front.calls front.counts);
        batches = subst (λ (m : List Moment). TellsOn front.size front.calls front.calls (issued m) (journal front.rail) (journal front.rail)) (sym (moments_by-nil here)) (TellsOn-nil front.size front.calls (journal front.rail));
        size = refl;
      }

  pub RunsOn-then : (lines others : List Line) (old mid new : FrontView R) (old_told mid_told new_told : List DoneView) → RunsOn tracked steps stands journal lines old mid old_told mid_told → RunsOn tracked steps stands journal others mid new mid_told new_told → RunsOn tracked steps stands journal (lines ++ others) old new old_told new_told
  RunsOn-then lines others old mid new old_told mid_told new_told one two =
      let size = old.size in
      let here = standing_of old in
      let there = standing_of mid in
      let after = after_lines here one.ran in
      let line_of : Ran → Line = λ one. one.line in
      let first = told_by_lines here one.ran in
      let both : issued_by_lines size here (one.ran ++ two.ran) ≡ issued_by_lines size here one.ran ++ issued_by_lines size there two.ran =
      ap (λ (m : List Moment). map (issued_in size) m) (moments_by-append here one.ran two.ran)
      ∙ map-append (issued_in size) (moments_by here one.ran) (moments_by after two.ran)
      ∙ ap (λ (s : Standing). issued_by_lines size here one.ran ++ issued_by_lines size s two.ran) (sym one.stand) in
      let later_counts : CountsOn size mid.calls new.calls (issued_by_lines size there two.ran) mid.counts new.counts =
      subst (λ (n : ℕ). CountsOn n mid.calls new.calls (issued_by_lines n there two.ran) mid.counts new.counts) one.size two.counts in
      let later_batches : TellsOn size mid.calls new.calls (issued_by_lines size there two.ran) (journal mid.rail) (journal new.rail) =
      subst (λ (n : ℕ). TellsOn n mid.calls new.calls (issued_by_lines n there two.ran) (journal mid.rail) (journal new.rail)) one.size two.batches in
      record {
        ran = one.ran ++ two.ran;
        each = map-append line_of one.ran two.ran ∙ ap (λ (l : List Line). l ++ map line_of two.ran) one.each ∙ ap (λ (l : List Line). lines ++ l) two.each;
        told = two.told
            ∙ ap (λ (t : List DoneView). t ++ told_by_lines there two.ran) one.told
            ∙ append_assoc old_told first (told_by_lines there two.ran)
            ∙ ap (λ (s : Standing). old_told ++ (first ++ told_by_lines s two.ran)) one.stand
            ∙ ap (λ (t : List DoneView). old_told ++ t) (sym (told_by_lines-append here one.ran two.ran));
        stand = two.stand ∙ ap (λ (s : Standing). after_lines s two.ran) one.stand ∙ sym (after_lines-append here one.ran two.ran);
        leads = λ st2 stood.
            let later = two.leads st2 stood in
            let before = one.leads (later.0) (later.1) in
            let rest = subst (λ (s : Standing). StepsThrough tracked steps s two.ran later.0 st2) one.stand later.2 in
            (before.0, before.1, StepsThrough-append tracked steps here one.ran two.ran before.0 later.0 st2 before.2 rest);
        counts = subst (λ (calls : List Issued). CountsOn size old.calls new.calls calls old.counts new.counts) (sym both) (CountsOn-then size old.calls mid.calls new.calls (issued_by_lines size here one.ran) (issued_by_lines size there two.ran) old.counts mid.counts new.counts one.counts later_counts);
        batches = subst (λ (calls : List Issued). TellsOn size old.calls new.calls calls (journal old.rail) (journal new.rail)) (sym both) (TellsOn-then size old.calls mid.calls new.calls (issued_by_lines size here one.ran) (issued_by_lines size there two.ran) (journal old.rail) (journal mid.rail) (journal new.rail) one.batches later_batches);
        size = two.size ∙ one.size;
      }

  -- a line that writes client memory
  pub RunsOn-mem : (line : Line) (at from : ℕ) (bytes : RoomView ℕ) (slice : List ℕ) (old new : FrontView R) (told : List DoneView) → line.act ≡ Mem at bytes → from ≡ at → slice ≡ bytes.items → new ≡ record old { memory = written old.memory from slice } → RunsOn tracked steps stands journal (line ∷ []) old new told told
  RunsOn-mem line at from bytes slice old new told is_mem same_place same_bytes wrote =
      let same : new ≡ record old { memory = written old.memory at bytes.items } =
      wrote
      ∙ ap (λ (n : ℕ). record old { memory = written old.memory n slice }) same_place
      ∙ ap (λ (b : List ℕ). record old { memory = written old.memory at b }) same_bytes in
      let after : FrontView R = record old { memory = written old.memory at bytes.items } in
      let runs : ActRuns line.number line.context Nothing old after told told (Mem at bytes) = record {
        told = sym (append-nil told);
        stand = refl;
        leads = λ st2 stood. (st2, stood, (refl, refl));
        counts = CountsOn-nil old.size old.calls old.counts;
        batches = TellsOn-nil old.size old.calls (journal old.rail);
        size = refl;
      } in
      RunsOn-one line Nothing old new told told
      (subst (λ (act : Act). ActRuns line.number line.context Nothing old new told told act) (sym is_mem)
      (subst (λ (front : FrontView R). ActRuns line.number line.context Nothing old front told told (Mem at bytes)) (sym same) runs))

  -- a line that takes an image
  pub RunsOn-image : (line : Line) (name : List ℕ) (width height at : ℕ) (memory : List ℕ) (shown : Shown) (old : FrontView R) (old_told new_told : List DoneView) → line.act ≡ Image name width height at → memory ≡ old.memory → shown ≡ Picture name width height (taken_bytes memory width height at) → new_told ≡ old_told ++ record { number = line.number; context = line.context; shown = shown } ∷ [] → RunsOn tracked steps stands journal (line ∷ []) old old old_told new_told
  RunsOn-image line name width height at memory shown old old_told new_told is_image same_memory taken added =
      let told_with : Shown → List DoneView = λ s. record { number = line.number; context = line.context; shown = s } ∷ [] in
      let same : shown ≡ Picture name width height (taken_bytes old.memory width height at) = taken ∙ ap (λ (m : List ℕ). Picture name width height (taken_bytes m width height at)) same_memory in
      let runs : ActRuns line.number line.context Nothing old old old_told new_told (Image name width height at) = record {
        told = added ∙ ap (λ (s : Shown). old_told ++ told_with s) same;
        stand = refl;
        leads = λ st2 stood. (st2, stood, (refl, refl));
        counts = CountsOn-nil old.size old.calls old.counts;
        batches = TellsOn-nil old.size old.calls (journal old.rail);
        size = refl;
      } in
      RunsOn-one line Nothing old old old_told new_told (subst (λ (act : Act). ActRuns line.number line.context Nothing old old old_told new_told act) (sym is_image) runs)

  -- a line that issues a call
  pub RunsOn-call : (fails : R → Type 0) (sends : R → ℕ) (line : Line) (call : Call) (reply : Replied) (old new : FrontView R) (old_told new_told : List DoneView)
      → line.act ≡ Gl call
      → KnowsTracked tracked stands steps old
      → TakesCall stands fails journal sends steps old new call reply
      → new_told ≡ old_told ++ told_of line.number line.context call reply
      → RunsOn tracked steps stands journal (line ∷ []) old new old_told new_told
  unfolding classes.issued_at classes.class_of
  RunsOn-call fails sends line call reply old new old_told new_told is_call knows takes added =
      let here = standing_of old in
      let moment : Moment = record { tracked = old.tracked; memory = old.memory; call = call } in
      let issued : Issued = issued_in old.size moment in
      let runs : ActRuns line.number line.context reply old new old_told new_told (Gl call) = record {
        told = added;
        stand = ap (λ (t : Tracked). let s : Standing = record { tracked = t; memory = new.memory } in s) takes.tracked
            ∙ ap (λ (m : List ℕ). let s : Standing = record { tracked = (after_act here (Gl call) reply).tracked; memory = m } in s) takes.memory;
        leads = λ st2 stood.
            let before = takes.carries st2 stood in
            (before.0, before.1, (knows before.0 before.1, before.2));
        counts = subst (λ (batch : List Spelled). CountsOn old.size old.calls batch (issued ∷ []) old.counts new.counts) (sym takes.open_batch) (CountsOn-one old.size old.calls issued old.counts new.counts takes.counts);
        batches = subst (λ (batch : List Spelled). TellsOn old.size old.calls batch (issued ∷ []) (journal old.rail) (journal new.rail)) (sym takes.open_batch) (TellsOn-one old.size old.calls issued (journal old.rail) (journal new.rail) takes.journal);
        size = takes.size;
      } in
      RunsOn-one line reply old new old_told new_told (subst (λ (act : Act). ActRuns line.number line.context reply old new old_told new_told act) (sym is_call) runs)

module _ {R S : Type 0} (tracked : S → Tracked) (steps : Steps S) (stands : R → S → Type 0) (fails : R → Type 0) (journal : R → Option (List (List Spelled))) (sends : R → ℕ) where
  -- a line by itself, which told nothing
  pub StopsOn-one : (line : Line) (old new : FrontView R) (old_told new_told : List DoneView) → new_told ≡ old_told → StopsAt tracked steps stands fails journal sends old new line → StopsOn tracked steps stands fails journal sends (line ∷ []) old new old_told new_told
  StopsOn-one line old new old_told new_told same stops = record {
    before = [];
    line = line;
    behind = [];
    all = refl;
    mid = old;
    runs = subst (λ (t : List DoneView). RunsOn tracked steps stands journal [] old old old_told t) (sym same) (RunsOn-nil tracked steps stands journal old old_told);
    stops = stops;
  }

  -- nothing was done
  pub StopsOn-still : (line : Line) (old : FrontView R) (old_told new_told : List DoneView) → new_told ≡ old_told → StopsOn tracked steps stands fails journal sends (line ∷ []) old old old_told new_told
  StopsOn-still line old old_told new_told same = StopsOn-one line old old old_told new_told same (inl refl)

  -- a call was refused
  stops_by : (is_refused : Bool) (line : Line) (old new : FrontView R) (call : Call) → old.refused ≡ is_refused → line.act ≡ Gl call → RefusesCall stands fails journal sends steps old new call → (old.refused ≡ true → new ≡ old) → StopsAt tracked steps stands fails journal sends old new line
  stops_by true line old new call is is_call refuses idle = inl (idle is)
  stops_by false line old new call is is_call refuses idle = inr (inl (record { call = call; act = is_call; refuses = refuses; ends = refuses.stops is }))

  pub StopsOn-refused : (line : Line) (old new : FrontView R) (told : List DoneView) (call : Call) → line.act ≡ Gl call → RefusesCall stands fails journal sends steps old new call → (old.refused ≡ true → new ≡ old) → StopsOn tracked steps stands fails journal sends (line ∷ []) old new told told
  StopsOn-refused line old new told call is_call refuses idle = StopsOn-one line old new told told refl (stops_by old.refused line old new call refl is_call refuses idle)

  -- a call was answered, and its answer wasn't added
  pub StopsOn-untold : (line : Line) (call : Call) (reply : Replied) (old new : FrontView R) (old_told new_told : List DoneView)
      → line.act ≡ Gl call
      → KnowsTracked tracked stands steps old
      → TakesCall stands fails journal sends steps old new call reply
      → is_answering call ≡ true
      → new_told ≡ old_told
      → StopsOn tracked steps stands fails journal sends (line ∷ []) old new old_told new_told
  StopsOn-untold line call reply old new old_told new_told is_call knows takes asks same =
      let answer = told_of line.number line.context call reply in
      StopsOn-one line old new old_told new_told same (inr (inr (record {
        call = call;
        act = is_call;
        asks = asks;
        answer = answer;
        runs = RunsOn-call tracked steps stands journal fails sends line call reply old new [] answer is_call knows takes refl;
      })))

  -- lines that were run, and then some at which memory was wanting
  pub StopsOn-then : (lines more : List Line) (old mid new : FrontView R) (old_told mid_told new_told : List DoneView) → RunsOn tracked steps stands journal lines old mid old_told mid_told → StopsOn tracked steps stands fails journal sends more mid new mid_told new_told → StopsOn tracked steps stands fails journal sends (lines ++ more) old new old_told new_told
  StopsOn-then lines more old mid new old_told mid_told new_told one two = record {
    before = lines ++ two.before;
    line = two.line;
    behind = two.behind;
    all = ap (λ (l : List Line). lines ++ l) two.all ∙ sym (append_assoc lines two.before (two.line ∷ two.behind));
    mid = two.mid;
    runs = RunsOn-then tracked steps stands journal lines two.before old mid two.mid old_told mid_told new_told one two.runs;
    stops = two.stops;
  }

  -- and others behind them
  pub StopsOn-before : (lines more : List Line) (old new : FrontView R) (old_told new_told : List DoneView) → StopsOn tracked steps stands fails journal sends lines old new old_told new_told → StopsOn tracked steps stands fails journal sends (lines ++ more) old new old_told new_told
  StopsOn-before lines more old new old_told new_told one = record {
    before = one.before;
    line = one.line;
    behind = one.behind ++ more;
    all = ap (λ (l : List Line). l ++ more) one.all ∙ append_assoc one.before (one.line ∷ one.behind) more;
    mid = one.mid;
    runs = one.runs;
    stops = one.stops;
  }
