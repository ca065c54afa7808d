use Rattle.epoch_rail.specs.Work.{Carried}
use Rattle.epoch_rail.proofs.carry.carry_all.Given as goal

abbrev pub invariant-loop : goal.invariant-loop
invariant-loop g l = Carried g.D.Machine.steps l.fn.begun l.work
