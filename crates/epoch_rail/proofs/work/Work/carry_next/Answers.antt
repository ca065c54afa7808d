use Rattle.std.proofs.Common.{refl}
use Rattle.epoch_rail.proofs.Works.{Carried-push, Carried-same}
use Rattle.epoch_rail.proofs.work.Work.carry_next.Goals as goal

pub returns-in-Some : goal.returns-in-Some
returns-in-Some g c = λ start carried.
    Carried-push g.D.Machine.steps start c.args.self.now c.carry.new.self c.next.new.self c.in-Some.batch carried
    c.in-Some.ensures.took c.next.ensures.same c.carry.ensures.filled c.carry.ensures.same c.carry.ensures.carried

pub returns-in-None : goal.returns-in-None
returns-in-None g c = λ start carried.
    Carried-same g.D.Machine.steps start c.args.self.now _ carried c.in-None.ensures.none c.next.ensures.same refl refl
