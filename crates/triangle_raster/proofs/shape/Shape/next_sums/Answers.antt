use Rattle.triangle_raster.proofs.Bounds.{kept_stepped}
use Rattle.triangle_raster.proofs.Shapes.{next_sums_as_seen}
use Rattle.triangle_raster.proofs.shape.Shape.next_sums.Goals as goal

pub returns : goal.returns
returns c = λ x y e.
    next_sums_as_seen c.args.self.now c.requires.shape x y c.args.sums.now e _ _ _
    (kept_stepped c.requires.near.near_one c.requires.shape.first_near.across c.stepped.ensures)
    (kept_stepped c.requires.near.near_two c.requires.shape.second_near.across c.stepped-2.ensures)
    (kept_stepped c.requires.near.near_three c.requires.shape.third_near.across c.stepped-3.ensures)
