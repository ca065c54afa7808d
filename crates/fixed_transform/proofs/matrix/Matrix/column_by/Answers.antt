use Rattle.std.proofs.Common.{rules, refl, ap, ◌∙◌, w32, ℤ, ◌*ℤ◌, to_z, of_z}
use Rattle.std.proofs.lemmas.Int.{to_z-of_z}
use Rattle.fixed_transform.specs.Fixed.{fx}
use Rattle.fixed_transform.specs.Matrix.{entry}
use Rattle.fixed_transform.proofs.Matrices.{cons_four}
use Rattle.fixed_transform.proofs.matrix.Matrix.column_by.Goals as goal

pub returns : goal.returns
returns c =
    let by = to_z-of_z w32 c.args.by c.ranges.by in
    cons_four
    (to_z-of_z w32 c.fixed_product.result (search rules) ∙ c.fixed_product.ensures ∙ ap (λ (z : ℤ). fx (z *ℤ to_z w32 (of_z w32 c.args.by))) (to_z-of_z w32 c.entry.result (search rules) ∙ c.entry.ensures) ∙ ap (λ (z : ℤ). fx (entry c.args.self.now 0 c.args.column *ℤ z)) by)
    (to_z-of_z w32 c.fixed_product-2.result (search rules) ∙ c.fixed_product-2.ensures ∙ ap (λ (z : ℤ). fx (z *ℤ to_z w32 (of_z w32 c.args.by))) (to_z-of_z w32 c.entry-2.result (search rules) ∙ c.entry-2.ensures) ∙ ap (λ (z : ℤ). fx (entry c.args.self.now 1 c.args.column *ℤ z)) by)
    (to_z-of_z w32 c.fixed_product-3.result (search rules) ∙ c.fixed_product-3.ensures ∙ ap (λ (z : ℤ). fx (z *ℤ to_z w32 (of_z w32 c.args.by))) (to_z-of_z w32 c.entry-3.result (search rules) ∙ c.entry-3.ensures) ∙ ap (λ (z : ℤ). fx (entry c.args.self.now 2 c.args.column *ℤ z)) by)
    (to_z-of_z w32 c.fixed_product-4.result (search rules) ∙ c.fixed_product-4.ensures ∙ ap (λ (z : ℤ). fx (z *ℤ to_z w32 (of_z w32 c.args.by))) (to_z-of_z w32 c.entry-4.result (search rules) ∙ c.entry-4.ensures) ∙ ap (λ (z : ℤ). fx (entry c.args.self.now 3 c.args.column *ℤ z)) by)
    refl
