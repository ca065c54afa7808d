use Rattle.std.proofs.Common.{◌≡◌}
use Rattle.epoch_rail.specs.Ends.{SameWorker}
use Rattle.epoch_rail.proofs.launch.stock.Given as goal

abbrev pub invariant-loop : goal.invariant-loop
invariant-loop l = (l.worker.filled ≡ l.fn.worker.filled) × SameWorker l.fn.worker l.worker
