use Rattle.std.proofs.Common.{◌≡◌, ◌≤ℤ◌, pos, ◌+ℤ◌, false, true, ap, ◌∙◌, arith}
use Rattle.std.proofs.lemmas.Int.{ints}
use Rattle.triangle_raster.specs.Pixel.{Weights}
use Rattle.triangle_raster.specs.Held.{depth_at}
use Rattle.triangle_raster.proofs.Bounds.{kept_column}
use Rattle.triangle_raster.proofs.Walks.{begun_holds}
use Rattle.triangle_raster.proofs.walk.Walk.finding.Goals as goal

pub returns-clause-holds : goal.returns-clause-holds
returns-clause-holds c =
    let low : pos 0 ≤ℤ c.args.columns.x = c.requires.columns.first_from_zero in
    let width : (c.args.columns.x +ℤ pos c.args.columns.left) ≤ℤ pos 256 = c.requires.columns.end_in_width in
    let rates = c.requires.rates in
    begun_holds c.args.shape.now c.requires.shape _
    (record {
      few_moving = rates.few_moving;
      carried_holds = λ (e : false ≡ true). cc;
      level_holds = rates.level_holds;
      ten_values = rates.ten_values;
      others_same = rates.others_same;
    })
    c.args.y c.requires.y c.args.columns c.requires.columns _ _ _ _ _ _ (kept_column c.requires.y) (kept_column (low, omega (arith, ints)))
    (λ some. record {
      depth_holds = c.depth_at.ensures ∙ ap (λ (w : Weights). depth_at c.args.shape.now.corners w) c.requires.sums;
      sums_hold = λ _. c.requires.sums;
      carried_at = λ (e : false ≡ true). cc;
    })
