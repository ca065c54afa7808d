use Rattle.std.proofs.Common.{◌≡◌, pos, ◌*ℤ◌, ap, ◌∙◌, arith, rules, w32, w64, to_z, of_z}
use Rattle.std.proofs.lemmas.Int.{ints, to_z-of_z}
use Rattle.fixed_transform.specs.Fixed.{clamp_i32, quotient_of}
use Rattle.fixed_transform.proofs.Bounds.{floor-same}
use Rattle.fixed_transform.proofs.arithmetic.quotient.Goals as goal

pub returns : goal.returns
unfolding quotient_of
returns c =
    let dividend : to_z w64 (of_z w64 (pos 65536 *ℤ to_z w64 (of_z w64 c.args.a))) ≡ c.args.a *ℤ pos 65536 = omega (arith, ints) in
    let divisor : to_z w64 (of_z w64 c.args.b) ≡ c.args.b = to_z-of_z w64 c.args.b c.ranges.b in
    to_z-of_z w32 c.clamped.result (search rules) ∙ c.clamped.ensures
    ∙ ap clamp_i32 (to_z-of_z w64 c.floor_of.result (search rules) ∙ c.floor_of.ensures ∙ floor-same dividend divisor)
