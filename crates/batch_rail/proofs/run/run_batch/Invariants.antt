use Rattle.std.proofs.Common.{length}
use Rattle.batch_rail.proofs.Running.{IsRunning}
use Rattle.batch_rail.proofs.run.run_batch.Given as goal

abbrev pub invariant-loop-packed : goal.invariant-loop-packed
invariant-loop-packed g l = IsRunning g.D.Machine.steps l.fn.driver l.fn.batch.calls l.driver l.reader

abbrev pub decreases-loop-packed : goal.decreases-loop-packed
decreases-loop-packed g l = length l.reader
