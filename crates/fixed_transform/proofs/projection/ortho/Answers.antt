use Rattle.std.proofs.Common.{◌≡◌, refl, ap, ◌∙◌, rules, w32, to_z, of_z}
use Rattle.std.proofs.lemmas.Int.{to_z-of_z}
use Rattle.fixed_transform.specs.Matrix.{of_values}
use Rattle.fixed_transform.specs.Projection.{ortho_of}
use Rattle.fixed_transform.proofs.Matrices.{cons_four}
use Rattle.fixed_transform.proofs.projection.ortho.Goals as goal

pub returns : goal.returns
unfolding ortho_of
returns c =
    let left : to_z w32 (of_z w32 c.args.left) ≡ c.args.left = to_z-of_z w32 c.args.left c.ranges.left in
    let right : to_z w32 (of_z w32 c.args.right) ≡ c.args.right = to_z-of_z w32 c.args.right c.ranges.right in
    let bottom : to_z w32 (of_z w32 c.args.bottom) ≡ c.args.bottom = to_z-of_z w32 c.args.bottom c.ranges.bottom in
    let top : to_z w32 (of_z w32 c.args.top) ≡ c.args.top = to_z-of_z w32 c.args.top c.ranges.top in
    let near : to_z w32 (of_z w32 c.args.near) ≡ c.args.near = to_z-of_z w32 c.args.near c.ranges.near in
    let far : to_z w32 (of_z w32 c.args.far) ≡ c.args.far = to_z-of_z w32 c.args.far c.ranges.far in
    c.from_values.ensures ∙ ap of_values (
    cons_four (to_z-of_z w32 c.scale-across.result (search rules) ∙ c.scale-across.ensures) refl refl refl (
    cons_four refl (to_z-of_z w32 c.scale-upward.result (search rules) ∙ c.scale-upward.ensures) refl refl (
    cons_four refl refl (to_z-of_z w32 c.scale-deep.result (search rules) ∙ c.scale-deep.ensures) refl (
    cons_four (to_z-of_z w32 c.opposite_middle-centre_across.result (search rules) ∙ c.opposite_middle-centre_across.ensures) (to_z-of_z w32 c.opposite_middle-centre_upward.result (search rules) ∙ c.opposite_middle-centre_upward.ensures) (to_z-of_z w32 c.opposite_middle-centre_deep.result (search rules) ∙ c.opposite_middle-centre_deep.ensures) refl refl))))
    ∙ simp (left, right, bottom, top, near, far)
