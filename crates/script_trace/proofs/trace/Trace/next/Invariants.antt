use Rattle.std.proofs.Common.{◌≡◌, ◌+◌, ◌*◌, ◌^◌, ◌≤◌, length}
use Rattle.std.specs.List.{All}
use Rattle.script_reader.specs.Limits.{IsLine}
use Rattle.script_trace.specs.Entries.{trace_here}
use Rattle.script_trace.proofs.trace.Trace.next.Given as goal

-- what is still to come is what was to come, and batches have numbers left for the lines
abbrev pub invariant-loop-self : goal.invariant-loop-self
invariant-loop-self g l = record {
  same : trace_here l.self-inside.here l.self-inside.lines.now ≡ l.fn.self;
  lines : All IsLine l.self-inside.lines.now;
  few : l.self-inside.here.batch.number + 2 * length l.self-inside.lines.now ≤ 2 ^ 32;
}

abbrev pub decreases-loop-self : goal.decreases-loop-self
decreases-loop-self g l = length l.self-inside.lines.now
