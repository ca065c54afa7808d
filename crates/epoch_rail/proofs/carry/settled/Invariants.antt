use Rattle.std.proofs.Common.{◌≡◌, ◌++◌, length}
use Rattle.rtrb.specs.Ring.{received, known_items, sent}
use Rattle.epoch_rail.specs.Work.{Carried}
use Rattle.epoch_rail.proofs.carry.settled.Given as goal

abbrev pub invariant-loop-work : goal.invariant-loop-work
invariant-loop-work g l = Carried g.D.Machine.steps l.fn.left l.work × (received l.work.ends.filled ++ known_items l.work.ends.filled ≡ sent l.caller.filled)

abbrev pub decreases-loop-work : goal.decreases-loop-work
decreases-loop-work g l = length (known_items l.work.ends.filled)
