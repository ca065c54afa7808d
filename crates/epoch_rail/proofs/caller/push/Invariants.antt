use Rattle.std.proofs.Common.{◌≡◌}
use Rattle.rtrb.specs.Ring.{sent, SameProducer}
use Rattle.epoch_rail.proofs.caller.push.Given as goal

abbrev pub invariant-loop : goal.invariant-loop
invariant-loop g l = (sent l.ring ≡ sent l.fn.ring) × (l.left ≡ l.fn.batch) × SameProducer l.fn.ring l.ring
