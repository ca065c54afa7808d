use Rattle.std.proofs.Common.{◌≡◌, ℤ, pos, List, get_or, refl, ap, ◌∙◌, rules, w32}
use Rattle.std.proofs.lemmas.Int.{to_z-of_z}
use Rattle.fixed_transform.specs.Matrix.{column_of, image, image_part, of_values, product, product_entry}
use Rattle.fixed_transform.proofs.Matrices.{cons_four}
use Rattle.fixed_transform.proofs.matrix.Matrix.multiply.Goals as goal

pub returns : goal.returns
unfolding product product_entry image image_part
returns c =
    let one : c.apply-one.result ≡ image c.args.self.now (column_of c.args.right.now 0) = c.apply-one.ensures ∙ ap (image c.args.self.now) c.column.ensures in
    let two : c.apply-two.result ≡ image c.args.self.now (column_of c.args.right.now 1) = c.apply-two.ensures ∙ ap (image c.args.self.now) c.column-2.ensures in
    let three : c.apply-three.result ≡ image c.args.self.now (column_of c.args.right.now 2) = c.apply-three.ensures ∙ ap (image c.args.self.now) c.column-3.ensures in
    let four : c.apply-four.result ≡ image c.args.self.now (column_of c.args.right.now 3) = c.apply-four.ensures ∙ ap (image c.args.self.now) c.column-4.ensures in
    ap of_values (
    cons_four
    (to_z-of_z w32 (get_or c.apply-one.result 0 (pos 0)) (search rules) ∙ ap (λ (v : List ℤ). get_or v 0 (pos 0)) one)
    (to_z-of_z w32 (get_or c.apply-one.result 1 (pos 0)) (search rules) ∙ ap (λ (v : List ℤ). get_or v 1 (pos 0)) one)
    (to_z-of_z w32 (get_or c.apply-one.result 2 (pos 0)) (search rules) ∙ ap (λ (v : List ℤ). get_or v 2 (pos 0)) one)
    (to_z-of_z w32 (get_or c.apply-one.result 3 (pos 0)) (search rules) ∙ ap (λ (v : List ℤ). get_or v 3 (pos 0)) one)
    (
    cons_four
    (to_z-of_z w32 (get_or c.apply-two.result 0 (pos 0)) (search rules) ∙ ap (λ (v : List ℤ). get_or v 0 (pos 0)) two)
    (to_z-of_z w32 (get_or c.apply-two.result 1 (pos 0)) (search rules) ∙ ap (λ (v : List ℤ). get_or v 1 (pos 0)) two)
    (to_z-of_z w32 (get_or c.apply-two.result 2 (pos 0)) (search rules) ∙ ap (λ (v : List ℤ). get_or v 2 (pos 0)) two)
    (to_z-of_z w32 (get_or c.apply-two.result 3 (pos 0)) (search rules) ∙ ap (λ (v : List ℤ). get_or v 3 (pos 0)) two)
    (
    cons_four
    (to_z-of_z w32 (get_or c.apply-three.result 0 (pos 0)) (search rules) ∙ ap (λ (v : List ℤ). get_or v 0 (pos 0)) three)
    (to_z-of_z w32 (get_or c.apply-three.result 1 (pos 0)) (search rules) ∙ ap (λ (v : List ℤ). get_or v 1 (pos 0)) three)
    (to_z-of_z w32 (get_or c.apply-three.result 2 (pos 0)) (search rules) ∙ ap (λ (v : List ℤ). get_or v 2 (pos 0)) three)
    (to_z-of_z w32 (get_or c.apply-three.result 3 (pos 0)) (search rules) ∙ ap (λ (v : List ℤ). get_or v 3 (pos 0)) three)
    (
    cons_four
    (to_z-of_z w32 (get_or c.apply-four.result 0 (pos 0)) (search rules) ∙ ap (λ (v : List ℤ). get_or v 0 (pos 0)) four)
    (to_z-of_z w32 (get_or c.apply-four.result 1 (pos 0)) (search rules) ∙ ap (λ (v : List ℤ). get_or v 1 (pos 0)) four)
    (to_z-of_z w32 (get_or c.apply-four.result 2 (pos 0)) (search rules) ∙ ap (λ (v : List ℤ). get_or v 2 (pos 0)) four)
    (to_z-of_z w32 (get_or c.apply-four.result 3 (pos 0)) (search rules) ∙ ap (λ (v : List ℤ). get_or v 3 (pos 0)) four)
    refl))))
