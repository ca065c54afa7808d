use Rattle.std.proofs.Common.{rules}
use Rattle.batch_rail.specs.Journal.{told_by}
use Rattle.batch_rail.specs.Rail.{HasDriver}
use Rattle.batch_rail.specs.Part.{IsUsed}
use Rattle.batch_rail.proofs.Lending.{Gains-moved, IsUsed-closed}
use Rattle.batch_rail.proofs.kept_maker.JournalPartRailLender.with_rail.Goals as goal

pub returns-clause-ok : goal.returns-clause-ok
returns-clause-ok g c =
    let rail = c.in-Ok.rail in
    let back = c.use_rail-rail.result.0 in
    let old = told_by c.args.self.now in
    let new = told_by c.close-closed.new.self in
    let used : IsUsed (g.U.RailUser.leads c.args.user c.args.slots c.in_ok-out.out) (HasDriver rail.failed rail.driver) (HasDriver back.failed back.driver) (told_by rail.journal) (told_by back.journal) = search rules in
    IsUsed-closed old (told_by rail.journal) (told_by back.journal) new (Gains-moved c.args.self.now rail.journal c.in-Ok.ensures.told) (Gains-moved back.journal c.close-closed.new.self c.close-closed.ensures.told)
    (g.U.RailUser.leads c.args.user c.args.slots c.in_ok-out.out) (HasDriver rail.failed rail.driver) (HasDriver back.failed back.driver) c.args.driver c.in_ok-driver.driver c.in-Ok.ensures.unused.only c.in_ok-driver.ensures.ok used
