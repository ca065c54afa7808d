use Rattle.std.proofs.Common.{sym, subst}
use Rattle.rtrb.specs.Ring.{sent}
use Rattle.epoch_rail.specs.Rings.{MayBegin}
use Rattle.epoch_rail.proofs.Sizes.{MayBegin-push}
use Rattle.epoch_rail.proofs.ends.CallerEnds.send.Goals as goal

pub invariant_of-self-clause-begun : goal.invariant_of-self-clause-begun
invariant_of-self-clause-begun g c =
    subst (MayBegin c.args.self.now.size) (sym c.push.ensures.sent) (MayBegin-push c.args.self.now.size (sent c.args.self.now.filled) c.args.batch c.args.self.now.begun c.requires.size)
