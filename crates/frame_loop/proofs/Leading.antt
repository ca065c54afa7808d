-- Where the calls of frames lead the renderer behind a front.
use Rattle.std.proofs.Common.{◌≡◌, ℕ, suc, ◌+◌, Bool, true, false, if◌then◌else◌, List, [], length, refl, sym, ap, subst, ◌∙◌, Option, arith}
use Rattle.std.specs.Prelude.{Result, Ok, Err, OnOk}
use Rattle.std.proofs.lemmas.List.{nil_from_length}
use Rattle.gl_words.specs.declared.call.Call.{Call}
use Rattle.gl_words.specs.declared.call.Call.TheVariants.{Clear, Flush, GetError}
use Rattle.gl_memory.specs.ClientMemory.{memory_of}
use Rattle.gl_objects.specs.View.{ObjectsView}
use Rattle.gl_state.specs.Private.{first_private}
use Rattle.batch_pack.specs.Spelling.{Spelled}
use Rattle.batch_rail.specs.Run.{RunsFrom}
use Rattle.gl_tracked.specs.declared.tracked.Tracked.{Tracked}
use Rattle.gl_tracked.specs.Tracked.{first_tracked}
use Rattle.driver_trait.specs.Output.{memory_after}
use Rattle.driver_trait.specs.Reply.{Replied}
use Rattle.driver_trait.proofs.Outputs.{length-memory_after}
use Rattle.soft_driver.specs.Own.{first_own}
use Rattle.soft_driver.specs.Renderer.{SoftSteps, SoftView, first_soft, soft_after, soft_tracked}
use Rattle.gl_front.specs.Front.{FrontView, new_front}
use Rattle.gl_front.specs.Taking.{TakesCall, Flushes}
use Rattle.frame_loop.specs.Frame.{after, after_frames, colour_of, drawn, drawn_and_asked, is_asked, LeadsBy}
use Rattle.frame_loop.specs.Work.{sum_of, worked}

-- what holds where all went well holds of what follows from it
pub OnOk-map : {T E P Q : Type 0} (result : Result T E) → (P → Q) → OnOk result P → OnOk result Q
OnOk-map (Ok value) leads holds = leads holds
OnOk-map (Err refusal) leads holds = tt

-- the renderer after one frame more
pub after_frames-next : (asks frames : ℕ) → after_frames asks (frames + 1) ≡ (λ soft. drawn_and_asked asks frames (after_frames asks frames soft))
after_frames-next asks frames =
    let one_more : suc frames ≡ frames + 1 = omega arith in
    subst (λ (n : ℕ). after_frames asks n ≡ (λ soft. drawn_and_asked asks frames (after_frames asks frames soft))) one_more refl

-- what the work comes to before one frame more
pub sum_of-next : (work frames : ℕ) → sum_of work (frames + 1) ≡ worked (sum_of work frames) work
sum_of-next work frames =
    let one_more : suc frames ≡ frames + 1 = omega arith in
    subst (λ (n : ℕ). sum_of work n ≡ worked (sum_of work frames) work) one_more refl

-- the tracked part of a new context
pub first_soft-tracked : (context width height : ℕ) (objects : ObjectsView) → soft_tracked (first_soft context width height objects) ≡ first_tracked
unfolding first_own first_private
first_soft-tracked context width height objects = refl

module _ {R : Type 0} (stands : R → SoftView → Type 0) where
  -- a call that was taken leads by what the renderer makes of it
  pub taken_leads : (fails : R → Type 0) (tells : R → Option (List (List Spelled))) (sends : R → ℕ) (old new : FrontView R) (call : Call) (reply : Replied)
      → old.memory ≡ [] → TakesCall stands fails tells sends SoftSteps old new call reply → LeadsBy stands (λ soft. after soft call) old new
  taken_leads fails tells sends old new call reply none takes = λ st2 here.
      let step = takes.carries st2 here in
      (step.0, step.1, step.2.0 ∙ ap (λ (bytes : List ℕ). soft_after step.0 call (memory_of bytes)) none)

  -- what leads on from where others lead
  pub leads_on : (first second : SoftView → SoftView) (old mid new : FrontView R) → LeadsBy stands first old mid → LeadsBy stands second mid new
      → LeadsBy stands (λ soft. second (first soft)) old new
  leads_on first second old mid new leads more = λ st2 here.
      let later = more st2 here in
      let earlier = leads later.0 later.1 in
      (earlier.0, earlier.1, later.2 ∙ ap second earlier.2)

  -- a frame of this number is drawn, each call as it is made
  pub three_lead : (number : ℕ) (colour : Call) (old set cleared new : FrontView R) → colour ≡ colour_of number
      → LeadsBy stands (λ soft. after soft colour) old set → LeadsBy stands (λ soft. after soft (Clear 0x4000)) set cleared
      → LeadsBy stands (λ soft. after soft Flush) cleared new → LeadsBy stands (drawn number) old new
  three_lead number colour old set cleared new is_colour first second third =
      let coloured : LeadsBy stands (λ soft. after soft (colour_of number)) old set =
      subst (λ (call : Call). LeadsBy stands (λ soft. after soft call) old set) is_colour first in
      leads_on (λ soft. after (after soft (colour_of number)) (Clear 0x4000)) (λ soft. after soft Flush) old cleared new
      (leads_on (λ soft. after soft (colour_of number)) (λ soft. after soft (Clear 0x4000)) old set cleared coloured second) third

  -- a frame after which an error is asked for, and one after which none is
  pub asked_leads : (asks number : ℕ) (old drew new : FrontView R) → is_asked asks number ≡ true → LeadsBy stands (drawn number) old drew
      → LeadsBy stands (λ soft. after soft GetError) drew new → LeadsBy stands (drawn_and_asked asks number) old new
  asked_leads asks number old drew new is leads more =
      subst (λ (b : Bool). LeadsBy stands (λ soft. if b then after (drawn number soft) GetError else drawn number soft) old new) (sym is)
      (leads_on (drawn number) (λ soft. after soft GetError) old drew new leads more)

  pub unasked_leads : (asks number : ℕ) (old drew : FrontView R) → is_asked asks number ≡ false → LeadsBy stands (drawn number) old drew
      → LeadsBy stands (drawn_and_asked asks number) old drew
  unasked_leads asks number old drew is leads =
      subst (λ (b : Bool). LeadsBy stands (λ soft. if b then after (drawn number soft) GetError else drawn number soft) old drew) (sym is) leads

  -- one frame more
  pub frames_lead : (asks frames : ℕ) (old mid new : FrontView R) → LeadsBy stands (after_frames asks frames) old mid
      → LeadsBy stands (drawn_and_asked asks frames) mid new → LeadsBy stands (after_frames asks (frames + 1)) old new
  frames_lead asks frames old mid new leads more =
      subst (λ (makes : SoftView → SoftView). LeadsBy stands makes old new) (sym (after_frames-next asks frames))
      (leads_on (after_frames asks frames) (drawn_and_asked asks frames) old mid new leads more)

  -- what comes back of a front that was made over a rail, was led on, and submitted its open batch
  pub leads_back : (fails : R → Type 0) (tells : R → Option (List (List Spelled))) (sends : R → ℕ) (makes : SoftView → SoftView) (rail back : R) (size : ℕ) (memory : List ℕ)
      (front later flushed : FrontView R) → front ≡ new_front rail size memory → LeadsBy stands makes front later
      → Flushes stands fails tells sends SoftSteps later flushed → back ≡ flushed.rail
      → (st2 : SoftView) → stands back st2 → (st : SoftView) × stands rail st × (st2 ≡ makes st)
  leads_back fails tells sends makes rail back size memory front later flushed is_new leads flush is_back = λ st2 at_end.
      let A : List Spelled → Type 0 = λ l. RunsFrom (stands flushed.rail) SoftSteps l st2 in
      let home : stands flushed.rail st2 = subst (λ (r : R). stands r st2) is_back at_end in
      let idle : RunsFrom (stands flushed.rail) SoftSteps [] st2 = record { start = st2; may_start = home; run = refl } in
      let led = leads st2 (flush.no_more st2 (subst A (sym flush.ends.open_batch) idle)) in
      let new : RunsFrom (stands rail) SoftSteps [] led.0 = subst (λ (f : FrontView R). RunsFrom (stands f.rail) SoftSteps f.calls led.0) is_new led.1 in
      (led.0, subst (λ (s : SoftView). stands rail s) (sym new.run) new.may_start, led.2)

-- client memory without a byte stays so, whatever is replied
pub stays_empty : (tracked : Tracked) (call : Call) (reply : Replied) (old new : List ℕ) → old ≡ [] → new ≡ memory_after tracked call reply old → new ≡ []
stays_empty tracked call reply old new none written =
    let long = ap length written ∙ length-memory_after tracked call reply old ∙ ap length none in
    nil_from_length new long
