use Rattle.std.proofs.Common.{ℤ, List, sym, ap, ◌∙◌, w32}
use Rattle.std.proofs.lemmas.Int.{to_z-of_z}
use Rattle.triangle_raster.specs.Row.{Triangle, fragments_of, pixels_at}
use Rattle.triangle_raster.proofs.Bounds.{kept_column}
use Rattle.triangle_raster.proofs.Rows.{columns_end_kept, columns_of-inside, columns_of-outside, has_row_kept, pixels_at-kept, row_in_frame}
use Rattle.triangle_raster.proofs.setup.Setup.row.Goals as goal

pub from_column-requires-clause-y : goal.from_column-requires-clause-y
from_column-requires-clause-y c =
    row_in_frame c.self.inside.area _ c.self.invariant.area_holds (sym c.has_row.ensures ∙ c.if-has_row.true)

pub from_column-requires-clause-count : goal.from_column-requires-clause-count
from_column-requires-clause-count c =
    columns_end_kept c.self.inside.area c.self.invariant.area_holds (kept_column c.self.invariant.area_holds.from_left) c.width.ensures

pub returns-then-has_row : goal.returns-then-has_row
returns-then-has_row c =
    c.from_column.ensures
    ∙ pixels_at-kept _ _ (to_z-of_z w32 c.args.y c.ranges.y) (kept_column c.self.invariant.area_holds.from_left) c.width.ensures
    ∙ ap (λ (xs : List ℤ). pixels_at c.self.inside.shape.corners c.self.inside.shape.view c.args.y xs)
    (sym (columns_of-inside c.self.inside.area c.args.y
    (sym (has_row_kept c.self.inside.area c.args.y (to_z-of_z w32 c.args.y c.ranges.y)) ∙ sym c.has_row.ensures ∙ c.if-has_row.true)))
    ∙ ap (λ (t : Triangle). fragments_of t c.args.y) c.self.view_is

pub returns-else-has_row : goal.returns-else-has_row
returns-else-has_row c =
    c.from_column-else-has_row.ensures
    ∙ ap (λ (xs : List ℤ). pixels_at c.self.inside.shape.corners c.self.inside.shape.view c.args.y xs)
    (sym (columns_of-outside c.self.inside.area c.args.y
    (sym (has_row_kept c.self.inside.area c.args.y (to_z-of_z w32 c.args.y c.ranges.y)) ∙ sym c.has_row.ensures ∙ c.if-has_row.false)))
    ∙ ap (λ (t : Triangle). fragments_of t c.args.y) c.self.view_is
