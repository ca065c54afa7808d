use Rattle.std.proofs.Common.{◌≡◌, rules, subst}
use Rattle.rtrb.specs.Ring.{sent}
use Rattle.epoch_rail.specs.Rail.{StandsFor}
use Rattle.epoch_rail.proofs.Left.{LeadsTo-own}
use Rattle.epoch_rail.proofs.rail.EpochRailWaitRail.take.Goals as goal

pub returns-clause-ok : goal.returns-clause-ok
returns-clause-ok g c =
    let is : c.take-stage.result ≡ c.args.self.now.stage = search rules in
    let e = c.ended-work.ensures in (
      subst (λ stage. StandsFor g.D.Machine.steps g.C.Worker.Begun.was stage (sent c.args.self.now.caller.filled) c.ended-work.result.driver) is
          (e.stands c.ended-work.result.driver (LeadsTo-own g.D.Machine.steps c.ended-work.result (sent c.ended-work.new.caller.filled) e.all c.if-work.false)),
      (c.requires.home.0, (e.fellows, e.all)),
    )
