use Rattle.std.proofs.Common.{refl}
use Rattle.epoch_rail.proofs.Works.{Carried-none, Carried-same}
use Rattle.epoch_rail.proofs.Left.{AreFellows-later}
use Rattle.epoch_rail.proofs.carry.settled.Goals as goal

pub loop-work-init : goal.loop-work-init
loop-work-init g c = (
  Carried-same g.D.Machine.steps c.args.left c.args.left _ (Carried-none g.D.Machine.steps c.args.left) c.see_all.ensures.received c.see_all.ensures.same refl refl,
  c.see_all.ensures.all,
)

pub returns-clause-fellows : goal.returns-clause-fellows
returns-clause-fellows g c =
    AreFellows-later c.args.caller.now c.see_all.new.caller c.args.left.ends c.loop-work.work.ends c.requires.fellows c.see_all.ensures.caller (c.loop-work.invariant.0.same)
