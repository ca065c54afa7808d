use Rattle.std.proofs.Common.{ℕ, ap, subst, ◌∙◌, replicate}
use Rattle.gl_tracked.specs.declared.tracked.Tracked.{Tracked}
use Rattle.batch_rail.specs.Maker.{IsLaunched}
use Rattle.gl_objects.specs.Step.{no_objects}
use Rattle.soft_driver.specs.Renderer.{SoftSteps, first_soft, soft_tracked}
use Rattle.script_reader.specs.declared.script.ContextSpec.{ContextSpec}
use Rattle.replay_lines.specs.Lines.{lines_in}
use Rattle.replay_lines.proofs.RunLemmas.{OnErr-always}
use Rattle.replay_core.specs.declared.rail.LinesRun.{LinesRun}
use Rattle.replay_core.specs.Rail.{GainsSome, RunsOver}
use Rattle.replay_core.specs.Script.{seen_script}
use Rattle.replay_core.proofs.DirectLemmas.{first_soft-tracked}
use Rattle.replay_core.proofs.Endings.{RanToEnd, ran_to_end, if_ok, on_err}
use Rattle.replay_core.proofs.JournalLemmas.{hands_over, hands_over_none, hands_over_some}
use Rattle.replay_core.proofs.rail.run_script.Goals as goal

pub run_over-ran-requires-clause-launched : goal.run_over-ran-requires-clause-launched
run_over-ran-requires-clause-launched g c κs live =
    subst (λ (first : Tracked). IsLaunched soft_tracked (g.R.RailState.stands c.in-Ok.lent.1) (g.R.RailState.failed c.in-Ok.lent.1) (g.R.RailState.home c.in-Ok.lent.1) (g.R.RailState.size c.in-Ok.lent.1) first)
    (ap soft_tracked c.in_ok-driver.ensures ∙ first_soft-tracked c.args.context c.only_context-sides.result.width c.only_context-sides.result.height no_objects)
    c.in-Ok.ensures.ok

pub returns-in_err-memory-clause-stopped : goal.returns-in_err-memory-clause-stopped
returns-in_err-memory-clause-stopped g c = OnErr-always c.from_residual.result (hands_over_none c.args.context (g.H.Launches.journal c.args.rails.now))

pub returns-in_err-driver-clause-stopped : goal.returns-in_err-driver-clause-stopped
returns-in_err-driver-clause-stopped g c = OnErr-always c.from_residual-in_err-driver.result (hands_over_none c.args.context (g.H.Launches.journal c.args.rails.now))

-- what a run over the rail came to
ended : (g : Rattle.replay_core.proofs.rail.run_script.Given.Over) (c : goal.In_ok-soft g) → RanToEnd c.args.context (seen_script c.args.script.now) c.args.batch c.in_ok-soft.soft c.in_ok-results.field-0.results c.in_ok-results.field-0.counts (g.R.RailState.journal c.in-Ok.lent.1) (g.R.RailState.journal c.run_over-ran.result.1)
ended g c =
    let stands = g.R.RailState.stands in
    let tells = g.R.RailState.journal in
    let sides = c.only_context-sides.ensures.context in
    let lines = c.as_slice.result.now in
    let over : ℕ → LinesRun → Type 0 = λ size ran. RunsOver soft_tracked SoftSteps stands tells (record { size = size; memory = c.in_ok-memory.memory; launched = c.in-Ok.lent.1; back = c.run_over-ran.result.1 }) (lines_in c.args.context lines) ran.results ran.counts in
    let run = if_ok (over (g.R.RailState.size c.in-Ok.lent.1)) c.run_over-ran.result.0 c.in_ok-results.field-0 c.in_ok-results.was c.run_over-ran.ensures.ok in
    ran_to_end c.args.context (seen_script c.args.script.now) c.in_ok-driver.driver c.in_ok-memory.memory lines
    (c.in_ok-driver.ensures ∙ ap (λ (k : ContextSpec). first_soft c.args.context k.width k.height no_objects) sides)
    (c.in_ok-memory.ensures.ok ∙ ap (λ (k : ContextSpec). replicate k.memory 0) sides)
    c.as_slice.ensures stands tells c.args.batch c.in-Ok.lent.1 c.run_over-ran.result.1 c.in_ok-results.field-0.results c.in_ok-results.field-0.counts c.in_ok-soft.soft
    (subst (λ (size : ℕ). over size c.in_ok-results.field-0) c.in-Ok.ensures.unused.of_size run) c.in-Ok.ensures.unused.only c.in_ok-soft.ensures.ok

pub returns-clause-told : goal.returns-clause-told
returns-clause-told g c = (ended g c).at_end.is_told

pub returns-clause-soft : goal.returns-clause-soft
returns-clause-soft g c = (ended g c).at_end.is_soft

pub returns-clause-counts : goal.returns-clause-counts
returns-clause-counts g c = (ended g c).all_counted

pub returns-clause-journal : goal.returns-clause-journal
returns-clause-journal g c =
    let journal = g.H.Launches.journal in
    hands_over c.args.context (journal c.args.rails.now) (journal c.launch.new.maker) (journal c.close-closed.new.maker) c.in-Ok.ensures.others c.close-closed.ensures.others
    (g.R.RailState.journal c.in-Ok.lent.1) (g.R.RailState.journal c.run_over-ran.result.1) _ c.in-Ok.ensures.told (ended g c).handed_over c.close-closed.ensures.told

pub returns-in_err-results-clause-stopped : goal.returns-in_err-results-clause-stopped
returns-in_err-results-clause-stopped g c =
    let journal = g.H.Launches.journal in
    let tells = g.R.RailState.journal in
    OnErr-always c.from_residual-in_err-results.result
    (hands_over_some c.args.context (journal c.args.rails.now) (journal c.launch.new.maker) (journal c.close-closed.new.maker) c.in-Ok.ensures.others c.close-closed.ensures.others
    (tells c.in-Ok.lent.1) (tells c.run_over-ran.result.1) c.in-Ok.ensures.told
    (on_err (GainsSome (tells c.in-Ok.lent.1) (tells c.run_over-ran.result.1)) c.run_over-ran.result.0 _ c.in_err-results.was c.run_over-ran.ensures.stopped) c.close-closed.ensures.told)

pub returns-in_err-soft-clause-stopped : goal.returns-in_err-soft-clause-stopped
returns-in_err-soft-clause-stopped g c =
    let journal = g.H.Launches.journal in
    let stands = g.R.RailState.stands in
    let tells = g.R.RailState.journal in
    let over : LinesRun → Type 0 = λ ran. RunsOver soft_tracked SoftSteps stands tells (record { size = g.R.RailState.size c.in-Ok.lent.1; memory = c.in_ok-memory.memory; launched = c.in-Ok.lent.1; back = c.run_over-ran.result.1 }) (lines_in c.args.context c.as_slice.result.now) ran.results ran.counts in
    let run = if_ok over c.run_over-ran.result.0 c.in_ok-results.field-0 c.in_ok-results.was c.run_over-ran.ensures.ok in
    OnErr-always c.from_residual-in_err-soft.result
    (hands_over_some c.args.context (journal c.args.rails.now) (journal c.launch.new.maker) (journal c.close-closed.new.maker) c.in-Ok.ensures.others c.close-closed.ensures.others
    (tells c.in-Ok.lent.1) (tells c.run_over-ran.result.1) c.in-Ok.ensures.told (_, run.handed_over) c.close-closed.ensures.told)
