use Rattle.std.proofs.Common.{◌≡◌, true, arith, rules}
use Rattle.triangle_raster.proofs.Runs.{no_run, run_is}
use Rattle.triangle_raster.proofs.walk.Walk.run.Goals as goal

pub returns-in-Some : goal.returns-in-Some
returns-in-Some c =
    let level : c.args.self.now.rates.level ≡ true = search rules in
    run_is c.args.self.now c.requires.holds (c.requires.holds.rates_hold.level_holds level) c.requires.holds.rates_hold.ten_values (omega arith) _ c.in-Some.is
    c.alike.ensures.first c.alike.ensures.count

pub returns-in-None : goal.returns-in-None
returns-in-None c =
    let level : c.args.self.now.rates.level ≡ true = search rules in
    no_run c.args.self.now c.requires.holds (c.requires.holds.rates_hold.level_holds level) _ c.in-None.is c.alike-in-None.ensures.count
