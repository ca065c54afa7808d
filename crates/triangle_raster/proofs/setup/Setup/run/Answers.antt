use Rattle.std.proofs.Common.{◌≡◌, true, ℤ, List, sym, ap, ◌∙◌, w32, rules, arith}
use Rattle.std.proofs.lemmas.Int.{to_z-of_z}
use Rattle.triangle_raster.specs.Row.{Triangle, fragments_of, pixels_at}
use Rattle.triangle_raster.proofs.Bounds.{kept_column}
use Rattle.triangle_raster.proofs.Rows.{columns_end_kept, columns_of-inside, has_row_kept, pixels_at-kept, row_in_frame}
use Rattle.triangle_raster.proofs.setup.Setup.run.Goals as goal

pub from_column-requires-clause-level : goal.from_column-requires-clause-level
from_column-requires-clause-level c =
    let alike : c.are_alike.result ≡ true = search rules in
    c.self.invariant.rates_hold.level_holds (c.are_alike.ensures.level alike)

pub from_column-requires-clause-same : goal.from_column-requires-clause-same
from_column-requires-clause-same c = λ k from below.
    let alike : c.are_alike.result ≡ true = search rules in
    let still = c.are_alike.ensures.still alike in
    c.self.invariant.rates_hold.others_same k (omega arith) below

pub from_column-requires-clause-y : goal.from_column-requires-clause-y
from_column-requires-clause-y c =
    let inside : c.has_row.result ≡ true = search rules in
    row_in_frame c.self.inside.area _ c.self.invariant.area_holds (sym c.has_row.ensures ∙ inside)

pub from_column-requires-clause-count : goal.from_column-requires-clause-count
from_column-requires-clause-count c =
    columns_end_kept c.self.inside.area c.self.invariant.area_holds (kept_column c.self.invariant.area_holds.from_left) c.width.ensures

pub returns : goal.returns
returns c =
    let inside : c.has_row.result ≡ true = search rules in
    sym
    (pixels_at-kept _ _ (to_z-of_z w32 c.args.y c.ranges.y) (kept_column c.self.invariant.area_holds.from_left) c.width.ensures
    ∙ ap (λ (xs : List ℤ). pixels_at c.self.inside.shape.corners c.self.inside.shape.view c.args.y xs)
    (sym (columns_of-inside c.self.inside.area c.args.y
    (sym (has_row_kept c.self.inside.area c.args.y (to_z-of_z w32 c.args.y c.ranges.y)) ∙ sym c.has_row.ensures ∙ inside)))
    ∙ ap (λ (t : Triangle). fragments_of t c.args.y) c.self.view_is)
    ∙ c.from_column.ensures
