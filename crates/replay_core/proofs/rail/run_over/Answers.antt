use Rattle.replay_lines.specs.Lines.{lines_in}
use Rattle.replay_core.proofs.RailLemmas.{runs_over, gains_some}
use Rattle.replay_core.proofs.rail.run_over.Goals as goal

pub returns-in-Ok-ran-clause-ok : goal.returns-in-Ok-ran-clause-ok
returns-in-Ok-ran-clause-ok g c =
    runs_over g.D.Machine.tracked g.D.Machine.steps g.R.RailState.stands g.R.RailState.failed g.R.RailState.journal g.R.RailState.sent (g.R.RailState.size c.args.rail) (lines_in c.args.context c.args.lines.now)
    c.args.rail c.into_parts-rail.result.0 c.args.memory c.in-Ok.front c.run-ran.new.front c.flush.new.front c.new-results.result c.run-ran.new.results
    c.in-Ok.ensures.ok c.into_parts-rail.ensures.rail c.flush.ensures.flushed c.counts-counts.result c.new-results.ensures c.in-Ok-ran.ensures.ok c.counts-counts.ensures

pub returns-in-Err-ran-clause-stopped : goal.returns-in-Err-ran-clause-stopped
returns-in-Err-ran-clause-stopped g c =
    gains_some g.D.Machine.tracked g.D.Machine.steps g.R.RailState.stands g.R.RailState.failed g.R.RailState.journal g.R.RailState.sent (g.R.RailState.size c.args.rail) (lines_in c.args.context c.args.lines.now)
    c.args.rail c.into_parts-rail.result.0 c.args.memory c.in-Ok.front c.run-ran.new.front c.flush.new.front c.new-results.result c.run-ran.new.results
    c.in-Ok.ensures.ok c.into_parts-rail.ensures.rail c.flush.ensures.flushed c.in-Err-ran.ensures.stopped
