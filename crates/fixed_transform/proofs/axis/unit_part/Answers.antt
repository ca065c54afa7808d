use Rattle.std.proofs.Common.{◌≡◌, ◌*◌, pos, ◌*ℤ◌, ◌∙◌, arith, w32, w64, to_z, of_z}
use Rattle.std.specs.Int.{int_div_euclid}
use Rattle.std.proofs.lemmas.Int.{ints, to_z_pos}
use Rattle.fixed_transform.specs.Fixed.{IsWithin}
use Rattle.fixed_transform.specs.Axis.{unit_part}
use Rattle.fixed_transform.proofs.Bounds.{floor-same, quotient_within}
use Rattle.fixed_transform.proofs.axis.unit_part.Goals as goal

pub returns-clause-value : goal.returns-clause-value
unfolding unit_part
returns-clause-value c =
    let dividend : to_z w64 (of_z w64 (pos 65536 *ℤ to_z w64 (of_z w64 (to_z w32 (of_z w32 c.args.part))))) ≡ c.args.part *ℤ pos 65536 = omega (arith, ints) in
    let divisor : to_z w64 c.args.length ≡ pos c.args.length = to_z_pos w64 c.args.length (omega arith) in
    let value : c.floor_of.result ≡ int_div_euclid (c.args.part *ℤ pos 65536) (pos c.args.length) = c.floor_of.ensures ∙ floor-same dividend divisor in
    let bound : IsWithin (65536 * c.args.length) (c.args.part *ℤ pos 65536) = record { within = omega (arith, ints, c.requires.part.within) } in
    let near : IsWithin 65536 (int_div_euclid (c.args.part *ℤ pos 65536) (pos c.args.length)) = quotient_within 65536 c.args.length (c.args.part *ℤ pos 65536) c.requires.some bound in
    rw value (omega (arith, ints, near.within))

pub returns-clause-near : goal.returns-clause-near
returns-clause-near c =
    let dividend : to_z w64 (of_z w64 (pos 65536 *ℤ to_z w64 (of_z w64 (to_z w32 (of_z w32 c.args.part))))) ≡ c.args.part *ℤ pos 65536 = omega (arith, ints) in
    let divisor : to_z w64 c.args.length ≡ pos c.args.length = to_z_pos w64 c.args.length (omega arith) in
    let value : c.floor_of.result ≡ int_div_euclid (c.args.part *ℤ pos 65536) (pos c.args.length) = c.floor_of.ensures ∙ floor-same dividend divisor in
    let bound : IsWithin (65536 * c.args.length) (c.args.part *ℤ pos 65536) = record { within = omega (arith, ints, c.requires.part.within) } in
    let near : IsWithin 65536 (int_div_euclid (c.args.part *ℤ pos 65536) (pos c.args.length)) = quotient_within 65536 c.args.length (c.args.part *ℤ pos 65536) c.requires.some bound in
    rw value (record { within = omega (arith, ints, near.within) })
