use Rattle.std.proofs.Common.{ℤ, pos, ◌+ℤ◌, Bool, ◌&&◌, List, [], ◌∷◌, ap, ◌∙◌, w32}
use Rattle.std.specs.Prelude.{int_le, int_lt}
use Rattle.std.proofs.lemmas.Int.{to_z-of_z}
use Rattle.fragment_ops.specs.declared.area.Area.{Area}
use Rattle.fragment_ops.specs.Cell.{passes_scissor}
use Rattle.fragment_ops.specs.Frame.{is_among}
use Rattle.fragment_ops.specs.Rows.{is_in_area}
use Rattle.fragment_ops.proofs.Scissors.{is_in_area-both, is_in_area-cut}
use Rattle.fragment_ops.proofs.area.Area.of_run.Goals as goal

pub returns-clause-area : goal.returns-clause-area
returns-clause-area c =
    let passing = c.scissored-passing.ensures.area in
    record {
      across = c.cut_to-columns.ensures.ordered;
      within_width = c.cut_to-columns.ensures.within c.args.width c.of_run.ensures.within passing.within_width;
      upwards = c.cut_to-rows.ensures.ordered;
      within_height = c.cut_to-rows.ensures.within c.args.height c.cut_from.ensures.within passing.within_height;
    }

pub returns-clause-places : goal.returns-clause-places
unfolding is_among
returns-clause-places c = λ column row in_width in_height.
    let x = to_z-of_z w32 c.args.x c.ranges.x in
    let y = to_z-of_z w32 c.args.y c.ranges.y in
    let columns = c.of_run.result in
    let rows = c.cut_from.result in
    let run : Area = record { left = columns.first; right = columns.until; bottom = rows.first; top = rows.until } in
    let rectangle : List ℤ = c.args.x ∷ c.args.y ∷ pos c.args.count ∷ pos 1 ∷ [] in
    is_in_area-both _ c.scissored-passing.result run column row (c.cut_to-columns.ensures.numbers column) (c.cut_to-rows.ensures.numbers row)
    ∙ ap (λ (t : Bool). t && is_in_area run (record { column = column; row = row })) (c.scissored-passing.ensures.places column row in_width in_height)
    ∙ ap (λ (t : Bool). passes_scissor c.args.state.now (record { column = column; row = row }) && t)
    (is_in_area-cut run rectangle column row
    (c.of_run.ensures.from column in_width ∙ ap (λ (z : ℤ). int_le z (pos column)) x)
    (c.of_run.ensures.before column in_width ∙ ap (λ (z : ℤ). int_lt (pos column) (z +ℤ pos c.args.count)) x)
    (c.cut_from.ensures.from row in_height ∙ ap (λ (z : ℤ). int_le z (pos row)) y)
    (c.cut_from.ensures.before row in_height ∙ ap (λ (z : ℤ). int_lt (pos row) (z +ℤ pos 1)) y))
