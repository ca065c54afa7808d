use Rattle.std.proofs.Common.{ap, ◌∙◌, ℤ, to_z, of_z}
use Rattle.std.specs.Int.{int_div_euclid, w128}
use Rattle.std.proofs.lemmas.Int.{to_z-of_z}
use Rattle.triangle_raster.proofs.Carries.{carry_from_code}
use Rattle.triangle_raster.proofs.carry.Split.of_sum.Goals as goal

pub returns : goal.returns
returns c =
    carry_from_code c.args.whole c.args.sum c.requires.sum c.requires.some c.requires.few
    (c.quotient-quotient.ensures
    ∙ ap (λ (z : ℤ). int_div_euclid z (to_z w128 (of_z w128 c.args.whole))) (to_z-of_z w128 c.args.sum c.ranges.sum)
    ∙ ap (λ (z : ℤ). int_div_euclid c.args.sum z) (to_z-of_z w128 c.args.whole c.ranges.whole))
