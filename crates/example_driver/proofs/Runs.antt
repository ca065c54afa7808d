-- A front that is made over a launched rail, runs lines, is flushed and gives the rail back, which gives its driver.
use Rattle.std.proofs.Common.{◌≡◌, ℕ, List, [], refl, sym, subst, ◌∙◌, Option}
use Rattle.batch_pack.specs.Spelling.{Spelled}
use Rattle.batch_rail.specs.Run.{RunsFrom}
use Rattle.gl_tracked.specs.declared.tracked.Tracked.{Tracked}
use Rattle.gl_tracked.specs.Tracked.{first_tracked}
use Rattle.driver_trait.specs.Driver.{Steps}
use Rattle.gl_front.specs.Front.{FrontView, new_front}
use Rattle.gl_front.specs.Taking.{Flushes}
use Rattle.script_reader.specs.declared.script.Line.{Line}
use Rattle.replay_lines.specs.Lines.{Standing, StepsThrough}
use Rattle.replay_lines.specs.Results.{DoneView}
use Rattle.replay_lines.specs.Running.{RunsOn}
use Rattle.example_driver.specs.Alone.{TellsAlone}

module _ {R S : Type 0} (tracked : S → Tracked) (steps : Steps S) (stands : R → S → Type 0) (fails : R → Type 0) (tells : R → Option (List (List Spelled))) (sends : R → ℕ) where
  -- lines that were run over a rail which stood for one state alone tell what the driver tells in that state, and lead it to the state in which it came back
  pub tells_alone : (size : ℕ) (lines : List Line) (rail back : R) (memory : List ℕ) (front later flushed : FrontView R) (before told : List DoneView) (st st2 : S)
      → front ≡ new_front rail size memory → before ≡ [] → ((start : S) → stands rail start → start ≡ st)
      → RunsOn tracked steps stands tells lines front later before told
      → Flushes stands fails tells sends steps later flushed → back ≡ flushed.rail → stands back st2
      → TellsAlone tracked steps (record { tracked = first_tracked; memory = memory }) lines st st2 told
  tells_alone size lines rail back memory front later flushed before told st st2 is_new none only run flush is_back at_end =
      let P : FrontView R → List DoneView → Type 0 = λ f t. RunsOn tracked steps stands tells lines f later t told in
      let here = subst (λ (t : List DoneView). P (new_front rail size memory) t) none (subst (λ (f : FrontView R). P f before) is_new run) in
      let A : List Spelled → Type 0 = λ l. RunsFrom (stands flushed.rail) steps l st2 in
      let home : stands flushed.rail st2 = subst (λ (r : R). stands r st2) is_back at_end in
      let idle : RunsFrom (stands flushed.rail) steps [] st2 = record { start = st2; may_start = home; run = refl } in
      let led = here.leads st2 (flush.no_more st2 (subst A (sym flush.ends.open_batch) idle)) in
      let first : led.0 ≡ st = led.1.run ∙ only led.1.start led.1.may_start in
      let standing : Standing = record { tracked = first_tracked; memory = memory } in
      record {
        ran = here.ran;
        each = here.each;
        tells = here.told;
        leads = subst (λ (s : S). StepsThrough tracked steps standing here.ran s st2) first led.2;
      }
