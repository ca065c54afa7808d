use Rattle.std.proofs.Common.{rules, ◌≡◌, List, refl, ap, ◌∙◌, w32, ℤ, pos, get_or}
use Rattle.std.proofs.lemmas.Int.{to_z-of_z}
use Rattle.fixed_transform.specs.Matrix.{column_by, column_of, entry, of_values, product, product_entry, scaling_of}
use Rattle.fixed_transform.proofs.Matrices.{cons_four}
use Rattle.fixed_transform.proofs.Units.{first-alone, second-alone, third-alone, fourth-kept}
use Rattle.fixed_transform.proofs.matrix.Matrix.scaled.Goals as goal

pub returns : goal.returns
unfolding product product_entry scaling_of
returns c =
    let m = c.args.self.now in
    let one : c.column_by-one.result ≡ column_by m 0 c.args.x = c.column_by-one.ensures ∙ ap (column_by m 0) (to_z-of_z w32 c.args.x c.ranges.x) in
    let two : c.column_by-two.result ≡ column_by m 1 c.args.y = c.column_by-two.ensures ∙ ap (column_by m 1) (to_z-of_z w32 c.args.y c.ranges.y) in
    let three : c.column_by-three.result ≡ column_by m 2 c.args.z = c.column_by-three.ensures ∙ ap (column_by m 2) (to_z-of_z w32 c.args.z c.ranges.z) in
    let four : c.column-four.result ≡ column_of m 3 = c.column-four.ensures in
    ap of_values (
    cons_four
    (to_z-of_z w32 (get_or c.column_by-one.result 0 (pos 0)) (search rules) ∙ ap (λ (v : List ℤ). get_or v 0 (pos 0)) one ∙ first-alone (entry m 0 0) (entry m 0 1) (entry m 0 2) (entry m 0 3) c.args.x)
    (to_z-of_z w32 (get_or c.column_by-one.result 1 (pos 0)) (search rules) ∙ ap (λ (v : List ℤ). get_or v 1 (pos 0)) one ∙ first-alone (entry m 1 0) (entry m 1 1) (entry m 1 2) (entry m 1 3) c.args.x)
    (to_z-of_z w32 (get_or c.column_by-one.result 2 (pos 0)) (search rules) ∙ ap (λ (v : List ℤ). get_or v 2 (pos 0)) one ∙ first-alone (entry m 2 0) (entry m 2 1) (entry m 2 2) (entry m 2 3) c.args.x)
    (to_z-of_z w32 (get_or c.column_by-one.result 3 (pos 0)) (search rules) ∙ ap (λ (v : List ℤ). get_or v 3 (pos 0)) one ∙ first-alone (entry m 3 0) (entry m 3 1) (entry m 3 2) (entry m 3 3) c.args.x)
    (
    cons_four
    (to_z-of_z w32 (get_or c.column_by-two.result 0 (pos 0)) (search rules) ∙ ap (λ (v : List ℤ). get_or v 0 (pos 0)) two ∙ second-alone (entry m 0 0) (entry m 0 1) (entry m 0 2) (entry m 0 3) c.args.y)
    (to_z-of_z w32 (get_or c.column_by-two.result 1 (pos 0)) (search rules) ∙ ap (λ (v : List ℤ). get_or v 1 (pos 0)) two ∙ second-alone (entry m 1 0) (entry m 1 1) (entry m 1 2) (entry m 1 3) c.args.y)
    (to_z-of_z w32 (get_or c.column_by-two.result 2 (pos 0)) (search rules) ∙ ap (λ (v : List ℤ). get_or v 2 (pos 0)) two ∙ second-alone (entry m 2 0) (entry m 2 1) (entry m 2 2) (entry m 2 3) c.args.y)
    (to_z-of_z w32 (get_or c.column_by-two.result 3 (pos 0)) (search rules) ∙ ap (λ (v : List ℤ). get_or v 3 (pos 0)) two ∙ second-alone (entry m 3 0) (entry m 3 1) (entry m 3 2) (entry m 3 3) c.args.y)
    (
    cons_four
    (to_z-of_z w32 (get_or c.column_by-three.result 0 (pos 0)) (search rules) ∙ ap (λ (v : List ℤ). get_or v 0 (pos 0)) three ∙ third-alone (entry m 0 0) (entry m 0 1) (entry m 0 2) (entry m 0 3) c.args.z)
    (to_z-of_z w32 (get_or c.column_by-three.result 1 (pos 0)) (search rules) ∙ ap (λ (v : List ℤ). get_or v 1 (pos 0)) three ∙ third-alone (entry m 1 0) (entry m 1 1) (entry m 1 2) (entry m 1 3) c.args.z)
    (to_z-of_z w32 (get_or c.column_by-three.result 2 (pos 0)) (search rules) ∙ ap (λ (v : List ℤ). get_or v 2 (pos 0)) three ∙ third-alone (entry m 2 0) (entry m 2 1) (entry m 2 2) (entry m 2 3) c.args.z)
    (to_z-of_z w32 (get_or c.column_by-three.result 3 (pos 0)) (search rules) ∙ ap (λ (v : List ℤ). get_or v 3 (pos 0)) three ∙ third-alone (entry m 3 0) (entry m 3 1) (entry m 3 2) (entry m 3 3) c.args.z)
    (
    cons_four
    (to_z-of_z w32 (get_or c.column-four.result 0 (pos 0)) (search rules) ∙ ap (λ (v : List ℤ). get_or v 0 (pos 0)) four ∙ fourth-kept (entry m 0 0) (entry m 0 1) (entry m 0 2) (entry m 0 3) (search rules))
    (to_z-of_z w32 (get_or c.column-four.result 1 (pos 0)) (search rules) ∙ ap (λ (v : List ℤ). get_or v 1 (pos 0)) four ∙ fourth-kept (entry m 1 0) (entry m 1 1) (entry m 1 2) (entry m 1 3) (search rules))
    (to_z-of_z w32 (get_or c.column-four.result 2 (pos 0)) (search rules) ∙ ap (λ (v : List ℤ). get_or v 2 (pos 0)) four ∙ fourth-kept (entry m 2 0) (entry m 2 1) (entry m 2 2) (entry m 2 3) (search rules))
    (to_z-of_z w32 (get_or c.column-four.result 3 (pos 0)) (search rules) ∙ ap (λ (v : List ℤ). get_or v 3 (pos 0)) four ∙ fourth-kept (entry m 3 0) (entry m 3 1) (entry m 3 2) (entry m 3 3) (search rules))
    refl))))
