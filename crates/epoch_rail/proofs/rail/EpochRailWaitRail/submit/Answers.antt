use Rattle.std.proofs.Common.{◌≡◌, ◌++◌, ◌∷◌, [], rules, subst}
use Rattle.rtrb.specs.Ring.{sent}
use Rattle.epoch_rail.specs.Rail.{StandsFor, FailsBy}
use Rattle.epoch_rail.proofs.Left.{StandsFor-sent, FailsBy-sent}
use Rattle.epoch_rail.proofs.rail.EpochRailWaitRail.submit.Goals as goal

pub returns-clause-stands : goal.returns-clause-stands
returns-clause-stands g c = λ st2 may.
    let is : c.take-stage.result ≡ c.args.self.now.stage = search rules in
    let all : sent c.send.new.self.filled ≡ sent c.args.self.now.caller.filled ++ c.args.full ∷ [] = search rules in
    StandsFor-sent g.D.Machine.steps g.C.Worker.Begun.was c.args.self.now.stage c.args.self.now.caller (sent c.send.new.self.filled) c.args.full st2 (c.requires.home.1) all
    (subst (λ stage. StandsFor g.D.Machine.steps g.C.Worker.Begun.was stage (sent c.send.new.self.filled) st2) is (c.under_way.ensures.stands st2 may))

pub returns-clause-failed : goal.returns-clause-failed
returns-clause-failed g c = λ fails.
    let is : c.take-stage.result ≡ c.args.self.now.stage = search rules in
    let all : sent c.send.new.self.filled ≡ sent c.args.self.now.caller.filled ++ c.args.full ∷ [] = search rules in
    FailsBy-sent g.C.Worker.Begun.was c.args.self.now.stage c.args.self.now.caller (sent c.send.new.self.filled) c.args.full (c.requires.home.1) all
    (subst (λ stage. FailsBy g.C.Worker.Begun.was stage (sent c.send.new.self.filled)) is (c.under_way.ensures.failed fails))
