use Rattle.epoch_rail.proofs.Works.{Carried-push}
use Rattle.epoch_rail.proofs.work.Work.carry_seen.Goals as goal

pub returns-clause-carried : goal.returns-clause-carried
returns-clause-carried g c = λ start carried.
    Carried-push g.D.Machine.steps start c.args.self.now c.carry.new.self c.next_seen-batch.new.self c.next_seen-batch.result carried
    c.next_seen-batch.ensures.took c.next_seen-batch.ensures.same c.carry.ensures.filled c.carry.ensures.same c.carry.ensures.carried
