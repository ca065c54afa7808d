use Rattle.rtrb.specs.Ring.{received, known_items}
use Rattle.epoch_rail.specs.Rings.{HasFirstSize}
use Rattle.epoch_rail.proofs.Sizes.{Begins-pop, size-popped}
use Rattle.epoch_rail.proofs.ends.WorkerEnds.next.Goals as goal

pub invariant_of-self-clause-begun : goal.invariant_of-self-clause-begun
invariant_of-self-clause-begun c =
    Begins-pop (HasFirstSize (received c.args.self.now.filled)) c.args.self.now.size (received c.args.self.now.filled) (known_items c.args.self.now.filled) (received c.pop.new.self) (known_items c.pop.new.self) c.pop.result
    (λ batch is. is) c.args.self.now.begun c.pop.ensures.ok c.pop.ensures.empty c.pop.ensures.succeeds

pub returns-in-Ok-clause-size : goal.returns-in-Ok-clause-size
returns-in-Ok-clause-size c =
    size-popped c.args.self.now.size (received c.args.self.now.filled) (known_items c.args.self.now.filled) (known_items c.pop.new.self) c.in-Ok.batch
    c.args.self.now.begun (c.in-Ok.ensures.ok.1) (c.in-Ok.ensures.ok.2)
