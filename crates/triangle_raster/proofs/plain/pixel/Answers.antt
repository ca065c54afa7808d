use Rattle.std.proofs.Common.{sym, refl, ◌∙◌, w32}
use Rattle.std.proofs.lemmas.Int.{to_z-of_z}
use Rattle.triangle_raster.proofs.Fragments.{pixel_of-flat, pixel_of-kept}
use Rattle.triangle_raster.proofs.plain.pixel.Goals as goal

pub returns-in-Some : goal.returns-in-Some
returns-in-Some c =
    c.pixel.ensures ∙ pixel_of-kept c.in-Some.ensures.corners c.in-Some.ensures.view (to_z-of_z w32 c.args.x c.ranges.x) (to_z-of_z w32 c.args.y c.ranges.y)

pub returns-in-None : goal.returns-in-None
returns-in-None c = sym (pixel_of-flat c.args.corners.now c.args.view c.args.x c.args.y (c.in-None.ensures.flat.0 refl))
