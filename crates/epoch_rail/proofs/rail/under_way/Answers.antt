use Rattle.std.proofs.Common.{◌≡◌, Some, rules, sym, subst}
use Rattle.rtrb.specs.Ring.{sent}
use Rattle.epoch_rail.specs.Rail.{FailsBy}
use Rattle.epoch_rail.specs.declared.stage.Stage.TheVariants.{Home}
use Rattle.epoch_rail.proofs.rail.under_way.Goals as goal

pub returns-in-Some-Home-clause-failed : goal.returns-in-Some-Home-clause-failed
returns-in-Some-Home-clause-failed g c = λ fails.
    let is : c.args.stage ≡ Some (Home c.in-Some-Home.work) = search rules in
    subst (λ stage. FailsBy g.C.Worker.Begun.was stage (sent c.args.caller.now.filled)) (sym is) (c.started.ensures.failed fails)
