use Rattle.std.proofs.Common.{◌≡◌, Some, rules, refl, subst}
use Rattle.rtrb.specs.Ring.{sent}
use Rattle.epoch_rail.specs.Rail.{IsTaken}
use Rattle.epoch_rail.specs.declared.stage.Stage.TheVariants.{Taken}
use Rattle.epoch_rail.proofs.Left.{LeadsTo-only, MayFail-none}
use Rattle.epoch_rail.proofs.rail.EpochRailWaitRail.put.Goals as goal

pub returns-clause-stands : goal.returns-clause-stands
returns-clause-stands g c = λ st leads.
    let is : c.args.self.now.stage ≡ Some (Taken c.in-Some-Taken.ends) = search rules in
    let taken = subst (λ s. IsTaken s c.args.self.now.caller) is (c.requires.taken.1) in
    LeadsTo-only g.D.Machine.steps _ (sent c.args.self.now.caller.filled) st (taken.1) leads

pub returns-clause-sound : goal.returns-clause-sound
returns-clause-sound g c =
    let is : c.args.self.now.stage ≡ Some (Taken c.in-Some-Taken.ends) = search rules in
    let taken = subst (λ s. IsTaken s c.args.self.now.caller) is (c.requires.taken.1) in
    MayFail-none g.D.Machine.steps _ (sent c.args.self.now.caller.filled) (taken.1) refl
