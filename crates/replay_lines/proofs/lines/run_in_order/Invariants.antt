use Rattle.std.proofs.Common.{◌≡◌, ◌+◌, ◌*◌, ◌++◌, take, List}
use Rattle.replay_lines.specs.Limits.{AllRiseBy}
use Rattle.replay_lines.specs.Lines.{lines_in}
use Rattle.replay_lines.specs.Results.{DoneView}
use Rattle.replay_lines.specs.Running.{RunsOn}
use Rattle.replay_lines.proofs.lines.run_in_order.Given as goal

-- the lines so far were run, little was counted, and as much was sent
abbrev pub invariant-loop-line : goal.invariant-loop-line
invariant-loop-line g l =
    let sent = g.R.RailState.sent in
    record {
      runs : RunsOn g.D.Machine.tracked g.D.Machine.steps g.R.RailState.stands g.R.RailState.journal (lines_in l.fn.context (take l.line-index l.lines)) l.fn.front l.front l.fn.results l.results;
      kept : (more : List DoneView) × (l.results ≡ l.fn.results ++ more);
      rises : AllRiseBy l.fn.front.counts l.front.counts (2 * l.line-index);
      sent : sent l.front.rail + l.fn.front.counts.batches ≡ sent l.fn.front.rail + l.front.counts.batches;
      same_size : l.front.size ≡ l.fn.front.size;
    }
