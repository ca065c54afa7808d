use Rattle.std.proofs.Common.{◌≡◌}
use Rattle.rtrb.specs.Ring.{sent}
use Rattle.epoch_rail.specs.Ends.{SameCaller}
use Rattle.epoch_rail.proofs.ends.CallerEnds.empty.Given as goal

abbrev pub invariant-loop : goal.invariant-loop
invariant-loop g l = (sent l.self.filled ≡ sent l.fn.self.filled) × SameCaller l.fn.self l.self
