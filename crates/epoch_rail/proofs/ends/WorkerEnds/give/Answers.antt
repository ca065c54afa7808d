use Rattle.std.proofs.Common.{rules}
use Rattle.epoch_rail.proofs.Sizes.{MayBegin-pushed}
use Rattle.epoch_rail.proofs.ends.WorkerEnds.give.Goals as goal

pub invariant_of-self-clause-given : goal.invariant_of-self-clause-given
invariant_of-self-clause-given c =
    MayBegin-pushed _ _ _ c.args.self.now.size _ _ _ c.push-given.result c.args.self.now.given (search rules) c.push-given.ensures.ok c.push-given.ensures.full
