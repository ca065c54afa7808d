use Rattle.std.proofs.Common.{sym, ◌∙◌, w32}
use Rattle.std.proofs.lemmas.Int.{to_z-of_z}
use Rattle.triangle_raster.proofs.Fragments.{pixel_as_kept, pixel_of-not_covered}
use Rattle.triangle_raster.proofs.shape.Shape.pixel.Goals as goal

pub returns-then-covers : goal.returns-then-covers
returns-then-covers c =
    pixel_as_kept c.args.self.now.corners c.args.self.now.view c.args.x c.args.y c.requires.shape.not_flat c.requires.sums
    (sym (c.covers.ensures.covered c.args.x c.args.y c.requires.sums) ∙ c.if-covers.true)
    (to_z-of_z w32 c.args.x c.ranges.x) (to_z-of_z w32 c.args.y c.ranges.y) c.kept.ensures

pub returns-else-covers : goal.returns-else-covers
returns-else-covers c =
    sym (pixel_of-not_covered c.args.self.now.corners c.args.self.now.view c.args.x c.args.y c.requires.shape.not_flat
    (sym (c.covers.ensures.covered c.args.x c.args.y c.requires.sums) ∙ c.if-covers.false))
