use Rattle.std.proofs.Common.{◌≡◌, []}
use Rattle.batch_pack.specs.Batch.{BatchView}
use Rattle.rtrb.specs.Ring.{received, known_items}
use Rattle.epoch_rail.specs.Rings.{HasFirstSize}
use Rattle.epoch_rail.proofs.Sizes.{Begins-pop, size-popped, empty_batch-of}
use Rattle.epoch_rail.proofs.ends.CallerEnds.empty_come.Goals as goal

pub invariant_of-self-clause-given : goal.invariant_of-self-clause-given
invariant_of-self-clause-given c =
    Begins-pop (λ (batch : BatchView). HasFirstSize (received c.args.self.now.emptied) batch × (batch.calls ≡ [])) c.args.self.now.size (received c.args.self.now.emptied) (known_items c.args.self.now.emptied)
    (received c.pop.new.self) (known_items c.pop.new.self) c.pop.result
    (λ batch is. is.0) c.args.self.now.given c.pop.ensures.ok c.pop.ensures.empty c.pop.ensures.succeeds

pub returns-in-Ok-clause-empty : goal.returns-in-Ok-clause-empty
returns-in-Ok-clause-empty c =
    empty_batch-of c.args.self.now.size c.in-Ok.batch
    (size-popped c.args.self.now.size (received c.args.self.now.emptied) (known_items c.args.self.now.emptied) (known_items c.pop.new.self) c.in-Ok.batch
    c.args.self.now.given (c.in-Ok.ensures.ok.1) (c.in-Ok.ensures.ok.2.0))
    (c.in-Ok.ensures.ok.2.1)
