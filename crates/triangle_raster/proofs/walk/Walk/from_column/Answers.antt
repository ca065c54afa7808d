use Rattle.std.proofs.Common.{refl, ◌∙◌, w32}
use Rattle.std.proofs.lemmas.Int.{to_z-of_z}
use Rattle.triangle_raster.proofs.Rows.{pixels_at-kept}
use Rattle.triangle_raster.proofs.walk.Walk.from_column.Goals as goal

pub returns-in-Some-clause-seen : goal.returns-in-Some-clause-seen
returns-in-Some-clause-seen c =
    c.in-Some.ensures.seen ∙ c.covered-columns.ensures.seen ∙ pixels_at-kept _ _ (to_z-of_z w32 c.args.y c.ranges.y) (to_z-of_z w32 c.args.x c.ranges.x) refl

pub returns-in-None-clause-seen : goal.returns-in-None-clause-seen
returns-in-None-clause-seen c =
    c.finding.ensures.seen ∙ c.covered-columns.ensures.seen ∙ pixels_at-kept _ _ (to_z-of_z w32 c.args.y c.ranges.y) (to_z-of_z w32 c.args.x c.ranges.x) refl
