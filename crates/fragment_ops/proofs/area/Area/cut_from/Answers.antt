use Rattle.std.proofs.Common.{ℤ, pos, ◌+ℤ◌, rules, ap, ◌∙◌, w32, to_z, of_z}
use Rattle.std.specs.Prelude.{int_le, int_lt, FitsSigned}
use Rattle.std.proofs.lemmas.Int.{to_z-of_z}
use Rattle.fragment_ops.specs.State.{number_at}
use Rattle.fragment_ops.proofs.Scissors.{is_in_area-cut}
use Rattle.fragment_ops.proofs.area.Area.cut_from.Goals as goal

pub returns-clause-places : goal.returns-clause-places
returns-clause-places c = λ column row in_width in_height.
    let r = c.args.rectangle in
    let f0 : FitsSigned w32 (number_at r 0) = search rules in
    let f1 : FitsSigned w32 (number_at r 1) = search rules in
    let f2 : FitsSigned w32 (number_at r 2) = search rules in
    let f3 : FitsSigned w32 (number_at r 3) = search rules in
    let x = to_z-of_z w32 (number_at r 0) f0 in
    let y = to_z-of_z w32 (number_at r 1) f1 in
    let across = to_z-of_z w32 (number_at r 2) f2 in
    let upwards = to_z-of_z w32 (number_at r 3) f3 in
    is_in_area-cut _ r column row
    (c.cut_from-columns.ensures.from column in_width ∙ ap (λ (z : ℤ). int_le z (pos column)) x)
    (c.cut_from-columns.ensures.before column in_width
    ∙ ap (λ (z : ℤ). int_lt (pos column) (z +ℤ to_z w32 (of_z w32 (number_at r 2)))) x
    ∙ ap (λ (z : ℤ). int_lt (pos column) (number_at r 0 +ℤ z)) across)
    (c.cut_from-rows.ensures.from row in_height ∙ ap (λ (z : ℤ). int_le z (pos row)) y)
    (c.cut_from-rows.ensures.before row in_height
    ∙ ap (λ (z : ℤ). int_lt (pos row) (z +ℤ to_z w32 (of_z w32 (number_at r 3)))) y
    ∙ ap (λ (z : ℤ). int_lt (pos row) (number_at r 1 +ℤ z)) upwards)
