use Rattle.std.proofs.Common.{lit<}
use Rattle.triangle_raster.proofs.Bounds.{as_128, kept_128, kept_column}
use Rattle.triangle_raster.proofs.Shapes.{from_weights, value_as_seen, centre_as_seen}
use Rattle.triangle_raster.proofs.shape.Shape.sums_at.Goals as goal

pub returns-clause-sums : goal.returns-clause-sums
returns-clause-sums c =
    let centre = centre_as_seen c.of_centre-centre.ensures.point (kept_column c.requires.x) (kept_column c.requires.y) in
    from_weights _ _ _ _
    (value_as_seen c.requires.shape.first_edge centre c.at.ensures.value
    (kept_128 (c.at.ensures.at_a_centre c.of_centre-centre.ensures.near) (lit< tt)))
    (value_as_seen c.requires.shape.second_edge centre c.at-2.ensures.value
    (kept_128 (c.at-2.ensures.at_a_centre c.of_centre-centre.ensures.near) (lit< tt)))
    (value_as_seen c.requires.shape.third_edge centre c.at-3.ensures.value
    (kept_128 (c.at-3.ensures.at_a_centre c.of_centre-centre.ensures.near) (lit< tt)))

pub returns-clause-near : goal.returns-clause-near
returns-clause-near c = record {
  near_one = as_128 (c.at.ensures.at_a_centre c.of_centre-centre.ensures.near) (lit< tt);
  near_two = as_128 (c.at-2.ensures.at_a_centre c.of_centre-centre.ensures.near) (lit< tt);
  near_three = as_128 (c.at-3.ensures.at_a_centre c.of_centre-centre.ensures.near) (lit< tt);
}
