use Rattle.std.proofs.Common.{◌≡◌, ℤ, pos, w64, to_z, of_z, ap, ◌∙◌, arith}
use Rattle.std.specs.Int.{int_div_euclid}
use Rattle.std.proofs.lemmas.Int.{ints, to_z-of_z}
use Rattle.texture_units.proofs.Coordinates.{quotient_near, shifted}
use Rattle.texture_units.proofs.coordinate.whole.Goals as goal
use lib.Signed.{shr_z}

pub returns-clause-value : goal.returns-clause-value
returns-clause-value c =
    let near = quotient_near c.args.far c.requires in
    let is : shr_z (to_z w64 (of_z w64 c.args.far)) 65536 ≡ int_div_euclid c.args.far (pos 65536) =
    ap (λ (z : ℤ). shr_z z 65536) (to_z-of_z w64 c.args.far c.ranges.far) ∙ shifted c.args.far 65536 in
    omega (arith, ints)
