use Rattle.std.proofs.Common.{◌≡◌, refl, ap, ◌∙◌, rules, w32, to_z, of_z}
use Rattle.std.proofs.lemmas.Int.{to_z-of_z}
use Rattle.fixed_transform.specs.Matrix.{of_values}
use Rattle.fixed_transform.specs.Rotation.{turn_about}
use Rattle.fixed_transform.proofs.Matrices.{cons_four}
use Rattle.fixed_transform.proofs.turning.turn_about.Goals as goal

pub returns : goal.returns
unfolding turn_about
returns c =
    let a : to_z w32 (of_z w32 c.args.a) ≡ c.args.a = to_z-of_z w32 c.args.a c.ranges.a in
    let b : to_z w32 (of_z w32 c.args.b) ≡ c.args.b = to_z-of_z w32 c.args.b c.ranges.b in
    let e : to_z w32 (of_z w32 c.args.e) ≡ c.args.e = to_z-of_z w32 c.args.e c.ranges.e in
    let sine : to_z w32 (of_z w32 c.args.sine) ≡ c.args.sine = to_z-of_z w32 c.args.sine c.ranges.sine in
    let cosine : to_z w32 (of_z w32 c.args.cosine) ≡ c.args.cosine = to_z-of_z w32 c.args.cosine c.ranges.cosine in
    c.from_values.ensures ∙ ap of_values (
    cons_four (to_z-of_z w32 c.diagonal_entry.result (search rules) ∙ c.diagonal_entry.ensures) (to_z-of_z w32 c.sum_entry.result (search rules) ∙ c.sum_entry.ensures) (to_z-of_z w32 c.difference_entry.result (search rules) ∙ c.difference_entry.ensures) refl (
    cons_four (to_z-of_z w32 c.difference_entry-2.result (search rules) ∙ c.difference_entry-2.ensures) (to_z-of_z w32 c.diagonal_entry-2.result (search rules) ∙ c.diagonal_entry-2.ensures) (to_z-of_z w32 c.sum_entry-2.result (search rules) ∙ c.sum_entry-2.ensures) refl (
    cons_four (to_z-of_z w32 c.sum_entry-3.result (search rules) ∙ c.sum_entry-3.ensures) (to_z-of_z w32 c.difference_entry-3.result (search rules) ∙ c.difference_entry-3.ensures) (to_z-of_z w32 c.diagonal_entry-3.result (search rules) ∙ c.diagonal_entry-3.ensures) refl (
    cons_four refl refl refl refl refl))))
    ∙ simp (a, b, e, sine, cosine)
