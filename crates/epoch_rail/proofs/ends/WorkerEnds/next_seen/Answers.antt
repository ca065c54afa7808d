use Rattle.rtrb.specs.Ring.{received, known_items}
use Rattle.epoch_rail.proofs.Sizes.{size-seen}
use Rattle.epoch_rail.proofs.ends.WorkerEnds.next_seen.Goals as goal

pub returns-clause-size : goal.returns-clause-size
returns-clause-size c =
    size-seen c.args.self.now.size (received c.args.self.now.filled) (known_items c.args.self.now.filled) (known_items c.pop_known.new.self) c.pop_known.result
    c.args.self.now.begun (c.pop_known.ensures.received.1) c.pop_known.ensures.allowed
