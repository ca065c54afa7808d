use Rattle.std.proofs.Common.{pos, to_z, of_z, ◌*ℤ◌, ap, ◌∙◌, rules, w32, w64, ℤ}
use Rattle.std.specs.Int.{int_div_euclid}
use Rattle.std.proofs.lemmas.Int.{to_z-of_z}
use Rattle.fixed_transform.specs.Fixed.{clamp_i32, fx}
use Rattle.fixed_transform.proofs.arithmetic.fixed_product.Goals as goal

pub returns : goal.returns
unfolding fx
returns c =
    let of = λ (z : ℤ). int_div_euclid z (pos 65536) in
    let a = to_z-of_z w32 c.args.a c.ranges.a in
    let b = to_z-of_z w32 c.args.b c.ranges.b in
    to_z-of_z w32 c.clamped.result (search rules) ∙ c.clamped.ensures
    ∙ ap clamp_i32 (to_z-of_z w64 c.whole.result (search rules) ∙ c.whole.ensures.value
    ∙ ap of (to_z-of_z w64 c.product.result (search rules) ∙ c.product.ensures.value ∙ ap (λ (z : ℤ). z *ℤ to_z w32 (of_z w32 c.args.b)) a ∙ ap (λ (z : ℤ). c.args.a *ℤ z) b))
