use Rattle.std.proofs.Common.{lit<}
use Rattle.triangle_raster.proofs.Bounds.{kept_32, kept_128}
use Rattle.triangle_raster.proofs.Vectors.{same_weights}
use Rattle.triangle_raster.proofs.Fragments.{z_as_kept, w_as_kept}
use Rattle.triangle_raster.proofs.Levels.{level_from_sums}
use Rattle.triangle_raster.proofs.shape.Shape.is_level.Goals as goal

pub returns-then-z-eq0 : goal.returns-then-z-eq0
returns-then-z-eq0 c = record {
  level = λ t.
      level_from_sums c.args.self.now
      (same_weights (kept_128 c.requires.shape.first_near.across (lit< tt)) (kept_128 c.requires.shape.second_near.across (lit< tt)) (kept_128 c.requires.shape.third_near.across (lit< tt)))
      (z_as_kept c.args.self.now.corners _ c.weighted-z.ensures.value
      (kept_32 c.requires.shape.corners_hold.one.deep (lit< tt)) (kept_32 c.requires.shape.corners_hold.two.deep (lit< tt)) (kept_32 c.requires.shape.corners_hold.three.deep (lit< tt)))
      (w_as_kept c.args.self.now.corners _ c.weighted-w.ensures.value
      (kept_32 c.requires.shape.corners_hold.one.divisor (lit< tt)) (kept_32 c.requires.shape.corners_hold.two.divisor (lit< tt)) (kept_32 c.requires.shape.corners_hold.three.divisor (lit< tt)))
      c.weighted-z.ensures.near c.weighted-w.ensures.near c.if-z-eq0.true t;
}
