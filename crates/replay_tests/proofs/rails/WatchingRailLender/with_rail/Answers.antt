use Rattle.std.proofs.Common.{rules, None, refl}
use Rattle.batch_rail.specs.Rail.{HasDriver}
use Rattle.batch_rail.specs.Part.{IsUsed}
use Rattle.batch_rail.proofs.Lending.{Gains-same, IsUsed-closed}
use Rattle.replay_tests.proofs.rails.WatchingRailLender.with_rail.Goals as goal

pub returns-clause-ok : goal.returns-clause-ok
returns-clause-ok g c =
    let rail = c.in-Ok.rail in
    let back = c.use_rail-rail.result.0 in
    let untold = Gains-same None None refl in
    let used : IsUsed (g.U.RailUser.leads c.args.user c.args.slots c.in_ok-out.out) (HasDriver rail.inside.failed rail.inside.driver) (HasDriver back.inside.failed back.inside.driver) None None = search rules in
    IsUsed-closed None None None None untold untold (g.U.RailUser.leads c.args.user c.args.slots c.in_ok-out.out) (HasDriver rail.inside.failed rail.inside.driver) (HasDriver back.inside.failed back.inside.driver) c.args.driver c.in_ok-driver.driver
    c.in-Ok.ensures.unused.only c.in_ok-driver.ensures.ok used
