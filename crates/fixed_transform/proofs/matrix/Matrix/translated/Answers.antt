use Rattle.std.proofs.Common.{rules, ◌≡◌, List, [], ◌∷◌, refl, ap, ◌∙◌, w32, ℤ, pos, get_or}
use Rattle.std.proofs.lemmas.Int.{to_z-of_z}
use Rattle.fixed_transform.specs.Matrix.{entry, image, image_part, of_values, product, product_entry, translation_of}
use Rattle.fixed_transform.proofs.Matrices.{cons_four}
use Rattle.fixed_transform.proofs.Units.{first-kept, second-kept, third-kept}
use Rattle.fixed_transform.proofs.matrix.Matrix.translated.Goals as goal

pub returns : goal.returns
unfolding product product_entry image image_part translation_of
returns c =
    let m = c.args.self.now in
    let x = to_z-of_z w32 c.args.x c.ranges.x in
    let y = to_z-of_z w32 c.args.y c.ranges.y in
    let z = to_z-of_z w32 c.args.z c.ranges.z in
    let last : c.apply-last.result ≡ image m (c.args.x ∷ c.args.y ∷ c.args.z ∷ pos 65536 ∷ []) = c.apply-last.ensures ∙ cc in
    ap of_values (
    cons_four
    (to_z-of_z w32 (get_or m.values 0 (pos 0)) (search rules) ∙ first-kept (entry m 0 0) (entry m 0 1) (entry m 0 2) (entry m 0 3) (search rules))
    (to_z-of_z w32 (get_or m.values 1 (pos 0)) (search rules) ∙ first-kept (entry m 1 0) (entry m 1 1) (entry m 1 2) (entry m 1 3) (search rules))
    (to_z-of_z w32 (get_or m.values 2 (pos 0)) (search rules) ∙ first-kept (entry m 2 0) (entry m 2 1) (entry m 2 2) (entry m 2 3) (search rules))
    (to_z-of_z w32 (get_or m.values 3 (pos 0)) (search rules) ∙ first-kept (entry m 3 0) (entry m 3 1) (entry m 3 2) (entry m 3 3) (search rules))
    (
    cons_four
    (to_z-of_z w32 (get_or m.values 4 (pos 0)) (search rules) ∙ second-kept (entry m 0 0) (entry m 0 1) (entry m 0 2) (entry m 0 3) (search rules))
    (to_z-of_z w32 (get_or m.values 5 (pos 0)) (search rules) ∙ second-kept (entry m 1 0) (entry m 1 1) (entry m 1 2) (entry m 1 3) (search rules))
    (to_z-of_z w32 (get_or m.values 6 (pos 0)) (search rules) ∙ second-kept (entry m 2 0) (entry m 2 1) (entry m 2 2) (entry m 2 3) (search rules))
    (to_z-of_z w32 (get_or m.values 7 (pos 0)) (search rules) ∙ second-kept (entry m 3 0) (entry m 3 1) (entry m 3 2) (entry m 3 3) (search rules))
    (
    cons_four
    (to_z-of_z w32 (get_or m.values 8 (pos 0)) (search rules) ∙ third-kept (entry m 0 0) (entry m 0 1) (entry m 0 2) (entry m 0 3) (search rules))
    (to_z-of_z w32 (get_or m.values 9 (pos 0)) (search rules) ∙ third-kept (entry m 1 0) (entry m 1 1) (entry m 1 2) (entry m 1 3) (search rules))
    (to_z-of_z w32 (get_or m.values 10 (pos 0)) (search rules) ∙ third-kept (entry m 2 0) (entry m 2 1) (entry m 2 2) (entry m 2 3) (search rules))
    (to_z-of_z w32 (get_or m.values 11 (pos 0)) (search rules) ∙ third-kept (entry m 3 0) (entry m 3 1) (entry m 3 2) (entry m 3 3) (search rules))
    (
    cons_four
    (to_z-of_z w32 (get_or c.apply-last.result 0 (pos 0)) (search rules) ∙ ap (λ (v : List ℤ). get_or v 0 (pos 0)) last)
    (to_z-of_z w32 (get_or c.apply-last.result 1 (pos 0)) (search rules) ∙ ap (λ (v : List ℤ). get_or v 1 (pos 0)) last)
    (to_z-of_z w32 (get_or c.apply-last.result 2 (pos 0)) (search rules) ∙ ap (λ (v : List ℤ). get_or v 2 (pos 0)) last)
    (to_z-of_z w32 (get_or c.apply-last.result 3 (pos 0)) (search rules) ∙ ap (λ (v : List ℤ). get_or v 3 (pos 0)) last)
    refl))))
