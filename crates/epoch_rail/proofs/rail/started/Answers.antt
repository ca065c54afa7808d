use Rattle.rtrb.specs.Ring.{sent}
use Rattle.epoch_rail.proofs.Left.{LeadsTo-twice, MayFail-twice}
use Rattle.epoch_rail.proofs.rail.started.Goals as goal

pub returns-in-Err-clause-stands : goal.returns-in-Err-clause-stands
returns-in-Err-clause-stands g c = λ st leads.
    let s = c.settled-in-Err.ensures in
    LeadsTo-twice g.D.Machine.steps c.args.work c.in-Err.back c.settled-in-Err.result (sent c.args.caller.now.filled) (sent c.settled-in-Err.new.caller.filled) st
    c.in-Err.ensures.err s.carried s.all s.sent leads

pub returns-in-Err-clause-failed : goal.returns-in-Err-clause-failed
returns-in-Err-clause-failed g c = λ fails.
    let s = c.settled-in-Err.ensures in
    MayFail-twice g.D.Machine.steps c.args.work c.in-Err.back c.settled-in-Err.result (sent c.args.caller.now.filled) (sent c.settled-in-Err.new.caller.filled)
    c.in-Err.ensures.err s.carried s.all s.sent fails
