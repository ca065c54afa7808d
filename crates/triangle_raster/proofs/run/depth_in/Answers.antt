use Rattle.std.proofs.Common.{◌≡◌, ◌≤ℤ◌, pos, ◌+ℤ◌, true, ap, ◌∙◌, rules, arith, lit<}
use Rattle.std.proofs.lemmas.Int.{ints}
use Rattle.triangle_raster.specs.Pixel.{Weights}
use Rattle.triangle_raster.specs.Held.{depth_at}
use Rattle.triangle_raster.proofs.Bounds.{kept_32, kept_column}
use Rattle.triangle_raster.proofs.CoveredColumns.{sums_kept}
use Rattle.triangle_raster.proofs.Evens.{even_in}
use Rattle.triangle_raster.proofs.run.depth_in.Goals as goal

pub returns-then-beside : goal.returns-then-beside
returns-then-beside c = λ some.
    let corners = c.requires.shape.corners_hold in
    let is_level : c.are_same-level.result ≡ true = search rules in
    let is_beside : c.are_same-beside.result ≡ true = search rules in
    let level = c.are_same-level.ensures.same is_level in
    let beside = c.are_same-beside.ensures.same is_beside in
    c.even_depth.ensures
    ∙ even_in c.args.shape.now c.requires.shape c.args.y c.args.columns c.requires.columns
    (kept_32 corners.one.deep (lit< tt)) (level.0 ∙ kept_32 corners.two.deep (lit< tt)) (level.1 ∙ kept_32 corners.three.deep (lit< tt))
    (kept_32 corners.one.divisor (lit< tt)) (beside.0 ∙ kept_32 corners.two.divisor (lit< tt)) (beside.1 ∙ kept_32 corners.three.divisor (lit< tt))
    some

pub returns : goal.returns
returns c = λ some.
    let low : pos 0 ≤ℤ c.args.columns.x = c.requires.columns.first_from_zero in
    let width : (c.args.columns.x +ℤ pos c.args.columns.left) ≤ℤ pos 256 = c.requires.columns.end_in_width in
    c.depth_at.ensures
    ∙ ap (λ (w : Weights). depth_at c.args.shape.now.corners w)
    (sums_kept c.args.shape.now c.args.columns.x c.args.y _ _ c.sums_at-sums.result c.sums_at-sums.ensures.sums (kept_column (low, omega (arith, ints))) (kept_column c.requires.y))
