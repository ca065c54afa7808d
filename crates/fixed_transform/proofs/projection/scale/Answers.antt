use Rattle.std.proofs.Common.{◌≡◌, pos, ◌-ℤ◌, ◌*ℤ◌, ◌∙◌, arith, rules, w32, w64, to_z, of_z}
use Rattle.std.proofs.lemmas.Int.{ints, to_z-of_z}
use Rattle.fixed_transform.proofs.Bounds.{quotient_of-same}
use Rattle.fixed_transform.proofs.projection.scale.Goals as goal

pub returns : goal.returns
returns c =
    let dividend : to_z w64 (of_z w64 (pos 2 *ℤ to_z w64 (of_z w64 (to_z w32 (of_z w32 c.args.distance))))) ≡ pos 2 *ℤ c.args.distance = omega (arith, ints) in
    let divisor : to_z w64 (of_z w64 c.difference.result) ≡ c.args.high -ℤ c.args.low = omega (arith, ints) in
    to_z-of_z w32 c.quotient.result (search rules) ∙ c.quotient.ensures ∙ quotient_of-same dividend divisor
