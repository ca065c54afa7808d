use Rattle.std.proofs.Common.{refl, ◌∙◌, w32}
use Rattle.std.proofs.lemmas.Int.{to_z-of_z}
use Rattle.triangle_raster.proofs.Rows.{pixels_at-kept}
use Rattle.triangle_raster.proofs.row.Row.from_column.Goals as goal

pub returns : goal.returns
returns c = c.from_column.ensures.seen ∙ pixels_at-kept _ _ (to_z-of_z w32 c.args.y c.ranges.y) (to_z-of_z w32 c.args.x c.ranges.x) refl
