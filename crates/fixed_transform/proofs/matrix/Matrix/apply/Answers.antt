use Rattle.std.proofs.Common.{refl, ◌∙◌, rules, w32}
use Rattle.std.proofs.lemmas.Int.{to_z-of_z}
use Rattle.fixed_transform.specs.Matrix.{image}
use Rattle.fixed_transform.proofs.Matrices.{cons_four}
use Rattle.fixed_transform.proofs.matrix.Matrix.apply.Goals as goal

pub returns : goal.returns
unfolding image
returns c =
    cons_four
    (to_z-of_z w32 c.image_part.result (search rules) ∙ c.image_part.ensures)
    (to_z-of_z w32 c.image_part-2.result (search rules) ∙ c.image_part-2.ensures)
    (to_z-of_z w32 c.image_part-3.result (search rules) ∙ c.image_part-3.ensures)
    (to_z-of_z w32 c.image_part-4.result (search rules) ∙ c.image_part-4.ensures)
    refl
