use Rattle.std.proofs.Common.{◌≡◌, to_z, of_z, w64, sym, arith}
use Rattle.std.proofs.lemmas.Int.{to_z-of_z}
use Rattle.triangle_raster.proofs.Carries.{carries_same, counted_same}
use Rattle.triangle_raster.proofs.carry.Carries.step.Goals as goal

pub returns-then-count-eq4-clause-carried : goal.returns-then-count-eq4-clause-carried
returns-then-count-eq4-clause-carried c = λ m n here further.
    let whole : to_z w64 (of_z w64 c.args.whole) ≡ c.args.whole = to_z-of_z w64 c.args.whole c.ranges.whole in
    let four : c.args.count ≡ 4 = omega arith in
    counted_same (sym four) (carries_same whole
    (c.step_each.ensures.carried m n (carries_same (sym whole) (counted_same four here)) (carries_same (sym whole) (counted_same four further))))

pub returns-else-count-eq4-clause-carried : goal.returns-else-count-eq4-clause-carried
returns-else-count-eq4-clause-carried c = λ m n here further.
    let whole : to_z w64 (of_z w64 c.args.whole) ≡ c.args.whole = to_z-of_z w64 c.args.whole c.ranges.whole in
    carries_same whole (c.step_each-else-count-eq4.ensures.carried m n (carries_same (sym whole) here) (carries_same (sym whole) further))
