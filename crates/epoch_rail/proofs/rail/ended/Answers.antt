use Rattle.std.proofs.Common.{◌≡◌, Some, rules, inl, sym, subst}
use Rattle.rtrb.specs.Ring.{sent}
use Rattle.epoch_rail.specs.Rail.{StandsFor, FailsBy}
use Rattle.epoch_rail.specs.declared.stage.Stage.TheVariants.{Home, Away}
use Rattle.epoch_rail.proofs.Left.{LeadsTo-settled, MayFail-settled, LeadsTo-twice, MayFail-twice}
use Rattle.epoch_rail.proofs.rail.ended.Goals as goal

pub returns-in-Some-Home-clause-stands : goal.returns-in-Some-Home-clause-stands
returns-in-Some-Home-clause-stands g c = λ st leads.
    let is : c.args.stage ≡ Some (Home c.in-Some-Home.work) = search rules in
    let s = c.settled.ensures in
    subst (λ stage. StandsFor g.D.Machine.steps g.H.Begun.was stage (sent c.args.caller.now.filled) st) (sym is)
    (LeadsTo-settled g.D.Machine.steps c.in-Some-Home.work c.settled.result (sent c.args.caller.now.filled) (sent c.settled.new.caller.filled) st s.carried s.all s.sent leads)

pub returns-in-Some-Home-clause-failed : goal.returns-in-Some-Home-clause-failed
returns-in-Some-Home-clause-failed g c = λ fails.
    let is : c.args.stage ≡ Some (Home c.in-Some-Home.work) = search rules in
    let s = c.settled.ensures in
    subst (λ stage. FailsBy g.H.Begun.was stage (sent c.args.caller.now.filled)) (sym is)
    (MayFail-settled g.D.Machine.steps c.in-Some-Home.work c.settled.result (sent c.args.caller.now.filled) (sent c.settled.new.caller.filled) s.carried s.all s.sent (inl fails))

pub returns-in-Some-Away-clause-stands : goal.returns-in-Some-Away-clause-stands
returns-in-Some-Away-clause-stands g c = λ st leads.
    let is : c.args.stage ≡ Some (Away c.in-Some-Away.worker) = search rules in
    let s = c.settled-in-Some-Away.ensures in
    subst (λ stage. StandsFor g.D.Machine.steps g.H.Begun.was stage (sent c.args.caller.now.filled) st) (sym is)
    (LeadsTo-twice g.D.Machine.steps (g.H.Begun.was c.in-Some-Away.worker) c.end.result c.settled-in-Some-Away.result (sent c.args.caller.now.filled) (sent c.settled-in-Some-Away.new.caller.filled) st
    c.end.ensures s.carried s.all s.sent leads)

pub returns-in-Some-Away-clause-failed : goal.returns-in-Some-Away-clause-failed
returns-in-Some-Away-clause-failed g c = λ fails.
    let is : c.args.stage ≡ Some (Away c.in-Some-Away.worker) = search rules in
    let s = c.settled-in-Some-Away.ensures in
    subst (λ stage. FailsBy g.H.Begun.was stage (sent c.args.caller.now.filled)) (sym is)
    (MayFail-twice g.D.Machine.steps (g.H.Begun.was c.in-Some-Away.worker) c.end.result c.settled-in-Some-Away.result (sent c.args.caller.now.filled) (sent c.settled-in-Some-Away.new.caller.filled)
    c.end.ensures s.carried s.all s.sent (inl fails))
