use Rattle.std.proofs.Common.{◌≡◌, ◌<◌, ◌^◌}
use Rattle.driver_trait.specs.Output.{rows_written}
use Rattle.driver_trait.proofs.output.write_rows.Given as goal

abbrev pub invariant-loop-left : goal.invariant-loop-left
invariant-loop-left l = record {
  same : rows_written l.left l.at l.row l.pitch l.rest l.memory ≡ rows_written l.fn.height l.fn.place l.fn.row l.fn.pitch l.fn.bytes l.fn.memory;
  low : l.at < 2 ^ 36;
}

abbrev pub decreases-loop-left : goal.decreases-loop-left
decreases-loop-left l = l.left
