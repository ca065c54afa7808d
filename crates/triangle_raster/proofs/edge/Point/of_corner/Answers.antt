use Rattle.std.proofs.Common.{◌^◌, lit<, lit≤}
use Rattle.triangle_raster.specs.Vertex.{place_of}
use Rattle.triangle_raster.proofs.Bounds.{kept_32, kept_64, as_32, as_64, side_within}
use Rattle.triangle_raster.proofs.Vectors.{same_vector}
use Rattle.triangle_raster.proofs.edge.Point.of_corner.Goals as goal

pub returns-clause-point : goal.returns-clause-point
unfolding place_of
returns-clause-point c =
    let kx = kept_32 c.requires.corner.across (lit< tt) in
    let ky = kept_32 c.requires.corner.upward (lit< tt) in
    let kw = kept_32 c.requires.corner.divisor (lit< tt) in
    let vx = kept_32 c.requires.view.across (lit< tt) in
    let vy = kept_32 c.requires.view.upward (lit< tt) in
    let vw = kept_32 (side_within c.requires.view.wide) (lit< tt) in
    let vh = kept_32 (side_within c.requires.view.high) (lit< tt) in
    let rx = kept_64 c.part.ensures.near (lit< tt) in
    let ry = kept_64 c.part-2.ensures.near (lit< tt) in
    let rd = kept_64 (c.small_product.ensures.near 2 (2 ^ 27) (record { within = lit≤ tt }) (as_32 c.requires.corner.divisor (lit< tt))) (lit< tt) in
    same_vector (cc) (cc) (cc)

pub returns-clause-near : goal.returns-clause-near
returns-clause-near c = record {
  across = as_64 c.part.ensures.near (lit< tt);
  upward = as_64 c.part-2.ensures.near (lit< tt);
  divisor = as_64 (c.small_product.ensures.near 2 (2 ^ 27) (record { within = lit≤ tt }) (as_32 c.requires.corner.divisor (lit< tt))) (lit< tt);
}
