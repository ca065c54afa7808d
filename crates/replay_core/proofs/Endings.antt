-- Runs from the start of a script's context on come to its end.
use Rattle.std.proofs.Common.{◌≡◌, ℕ, List, [], sym, ap, subst, ◌∙◌, replicate, Option}
use Rattle.std.specs.Prelude.{Result, IfOk, OnErr}
use Rattle.std.proofs.Common.{Ok, Err}
use Rattle.batch_rail.specs.Rail.{Gains}
use Rattle.client_shadow.specs.Cutting.{Issued, batches_from, tally_of}
use Rattle.gl_front.specs.declared.counts.Counts.{Counts}
use Rattle.gl_tracked.specs.declared.tracked.Tracked.{Tracked}
use Rattle.gl_tracked.specs.Tracked.{first_tracked}
use Rattle.script_reader.specs.declared.script.Line.{Line}
use Rattle.gl_objects.specs.Step.{no_objects}
use Rattle.soft_driver.specs.Renderer.{SoftSteps, SoftView, first_soft, soft_tracked}
use Rattle.replay_lines.specs.Lines.{Ran, Standing, StepsThrough, lines_in, told_by_lines}
use Rattle.replay_lines.specs.Results.{DoneView}
use Rattle.replay_core.specs.Calls.{calls_of}
use Rattle.replay_core.specs.Direct.{Reached, end_of, soft_reached}
use Rattle.replay_core.specs.Plain.{CarriesOut, PlainView}
use Rattle.replay_core.specs.Rail.{at_start, RunsOver}
use Rattle.replay_core.specs.Report.{counted}
use Rattle.replay_core.specs.Script.{Scripted}
use Rattle.replay_core.specs.World.{Batches}
use Rattle.replay_core.proofs.DirectLemmas.{lines_of, end_is, calls_are, first_soft-tracked}

-- a context came to its end, and told this
pub record IsEnd (context : ℕ) (script : Scripted) (soft : SoftView) (told : List DoneView) : Type 0 where
  pub is_soft : soft ≡ soft_reached (end_of context script)
  pub is_told : told ≡ (end_of context script).told

-- a run over a rail came to the end of a script's context, with its counts and its batches
pub record RanToEnd (context : ℕ) (script : Scripted) (size : ℕ) (soft : SoftView) (told : List DoneView) (counts : Counts) (launched closed : Option Batches) : Type 0 where
  pub at_end : IsEnd context script soft told
  pub all_counted : counted counts ≡ tally_of size (calls_of size context script)
  pub handed_over : Gains launched closed (batches_from size [] (calls_of size context script))

module _ (context : ℕ) (script : Scripted) (st : SoftView) (memory : List ℕ) (lines : List Line) (is_first : st ≡ first_soft context script.width script.height no_objects)
    (is_blank : memory ≡ replicate script.memory 0) (all : lines ≡ script.lines) where
  -- the lines that were run are the script's
  of_script : (ran : List Ran) → lines_of ran ≡ lines_in context lines → lines_of ran ≡ lines_in context script.lines
  of_script ran each = each ∙ ap (λ (l : List Line). lines_in context l) all

  pub carried_to_end : (old new : PlainView SoftView) → old ≡ record { driver = st; memory = memory; told = [] } → CarriesOut soft_tracked SoftSteps (lines_in context lines) old new → IsEnd context script new.driver new.told
  carried_to_end old new is_new carried =
      let here = subst (λ (p : PlainView SoftView). CarriesOut soft_tracked SoftSteps (lines_in context lines) p new) is_new carried in
      let first : soft_tracked st ≡ first_tracked = ap soft_tracked is_first ∙ first_soft-tracked context script.width script.height no_objects in
      let at : Tracked → Standing = λ t. record { tracked = t; memory = memory } in
      let led = subst (λ (t : Tracked). StepsThrough soft_tracked SoftSteps (at t) here.ran st new.driver) first here.leads in
      let told : new.told ≡ told_by_lines (at_start memory) here.ran = here.told ∙ ap (λ (t : Tracked). told_by_lines (at t) here.ran) first in
      let ended = end_is context script here.ran st new.driver memory is_first is_blank (of_script here.ran here.each) led in
      record {
        is_soft = sym (ap soft_reached ended);
        is_told = told ∙ sym (ap (λ (r : Reached). r.told) ended);
      }

  pub ran_to_end : {R : Type 0} (stands : R → SoftView → Type 0) (tells : R → Option Batches) (size : ℕ) (old new : R) (told : List DoneView) (counts : Counts) (st2 : SoftView)
      → RunsOver soft_tracked SoftSteps stands tells (record { size = size; memory = memory; launched = old; back = new }) (lines_in context lines) told counts
      → ((s : SoftView) → stands old s → s ≡ st) → stands new st2
      → RanToEnd context script size st2 told counts (tells old) (tells new)
  ran_to_end {R} stands tells size old new told counts st2 run only ends =
      let led = run.leads st2 ends in
      let from_first = subst (λ (s : SoftView). StepsThrough soft_tracked SoftSteps (at_start memory) run.ran s st2) (only led.0 led.1) led.2 in
      let each = of_script run.ran run.each in
      let ended = end_is context script run.ran st st2 memory is_first is_blank each from_first in
      let calls = calls_are context script run.ran st st2 memory is_first is_blank each from_first size in
      record {
        at_end = record { is_soft = sym (ap soft_reached ended); is_told = run.all_told ∙ sym (ap (λ (r : Reached). r.told) ended) };
        all_counted = run.all_counted ∙ ap (λ (c : List Issued). tally_of size c) (sym calls);
        handed_over = subst (λ (c : List Issued). Gains (tells old) (tells new) (batches_from size [] c)) (sym calls) run.handed_over;
      }

-- what holds of a result that is known to be Ok, or an error
pub if_ok : {T E : Type 0} (P : T → Type 0) (result : Result T E) (value : T) → result ≡ Ok value → IfOk result P → P value
if_ok P result value is held = subst (λ r. IfOk r P) is held

pub on_err : {T E : Type 0} (P : Type 0) (result : Result T E) (refusal : E) → result ≡ Err refusal → OnErr result P → P
on_err P result refusal is held = subst (λ r. OnErr r P) is held
