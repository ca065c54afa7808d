use Rattle.std.proofs.Common.{◌≡◌, ◌*◌, ℤ, pos, ◌*ℤ◌, ap, ◌∙◌, arith, w32, w64, to_z, of_z, lit<}
use Rattle.std.specs.Int.{int_div_euclid}
use Rattle.std.proofs.lemmas.Int.{ints}
use Rattle.fixed_transform.specs.Fixed.{IsWithin}
use Rattle.fixed_transform.specs.Rotation.{scaled}
use Rattle.fixed_transform.proofs.Bounds.{quotient_within, within_product}
use Rattle.fixed_transform.proofs.turning.scaled.Goals as goal

pub returns-clause-value : goal.returns-clause-value
unfolding scaled
returns-clause-value c =
    let u : to_z w64 (of_z w64 (to_z w32 (of_z w32 c.args.u))) ≡ c.args.u = omega (arith, ints) in
    let v : to_z w64 (of_z w64 (to_z w32 (of_z w32 c.args.v))) ≡ c.args.v = omega (arith, ints) in
    let bound : IsWithin (65536 * 131072) (c.args.u *ℤ c.args.v) = within_product c.requires.u c.requires.v in
    let dividend : to_z w64 (of_z w64 (to_z w64 (of_z w64 (to_z w32 (of_z w32 c.args.u))) *ℤ to_z w64 (of_z w64 (to_z w32 (of_z w32 c.args.v))))) ≡ c.args.u *ℤ c.args.v =
    rw (u, v) (omega (arith, ints, bound.within))
    in
    let value : c.floor_of.result ≡ int_div_euclid (c.args.u *ℤ c.args.v) (pos 65536) = c.floor_of.ensures ∙ ap (λ (z : ℤ). int_div_euclid z (pos 65536)) dividend in
    let near : IsWithin 131072 (int_div_euclid (c.args.u *ℤ c.args.v) (pos 65536)) = quotient_within 131072 65536 (c.args.u *ℤ c.args.v) (lit< tt) (record { within = omega (arith, bound.within) }) in
    rw value (omega (arith, ints, near.within))

pub returns-clause-near : goal.returns-clause-near
returns-clause-near c =
    let u : to_z w64 (of_z w64 (to_z w32 (of_z w32 c.args.u))) ≡ c.args.u = omega (arith, ints) in
    let v : to_z w64 (of_z w64 (to_z w32 (of_z w32 c.args.v))) ≡ c.args.v = omega (arith, ints) in
    let bound : IsWithin (65536 * 131072) (c.args.u *ℤ c.args.v) = within_product c.requires.u c.requires.v in
    let dividend : to_z w64 (of_z w64 (to_z w64 (of_z w64 (to_z w32 (of_z w32 c.args.u))) *ℤ to_z w64 (of_z w64 (to_z w32 (of_z w32 c.args.v))))) ≡ c.args.u *ℤ c.args.v =
    rw (u, v) (omega (arith, ints, bound.within))
    in
    let value : c.floor_of.result ≡ int_div_euclid (c.args.u *ℤ c.args.v) (pos 65536) = c.floor_of.ensures ∙ ap (λ (z : ℤ). int_div_euclid z (pos 65536)) dividend in
    let near : IsWithin 131072 (int_div_euclid (c.args.u *ℤ c.args.v) (pos 65536)) = quotient_within 131072 65536 (c.args.u *ℤ c.args.v) (lit< tt) (record { within = omega (arith, bound.within) }) in
    rw value (record { within = omega (arith, ints, near.within) })

pub returns-clause-unit : goal.returns-clause-unit
returns-clause-unit c = λ unit.
    let u : to_z w64 (of_z w64 (to_z w32 (of_z w32 c.args.u))) ≡ c.args.u = omega (arith, ints) in
    let v : to_z w64 (of_z w64 (to_z w32 (of_z w32 c.args.v))) ≡ c.args.v = omega (arith, ints) in
    let bound : IsWithin (65536 * 131072) (c.args.u *ℤ c.args.v) = within_product c.requires.u c.requires.v in
    let dividend : to_z w64 (of_z w64 (to_z w64 (of_z w64 (to_z w32 (of_z w32 c.args.u))) *ℤ to_z w64 (of_z w64 (to_z w32 (of_z w32 c.args.v))))) ≡ c.args.u *ℤ c.args.v =
    rw (u, v) (omega (arith, ints, bound.within))
    in
    let value : c.floor_of.result ≡ int_div_euclid (c.args.u *ℤ c.args.v) (pos 65536) = c.floor_of.ensures ∙ ap (λ (z : ℤ). int_div_euclid z (pos 65536)) dividend in
    let small : IsWithin (65536 * 65536) (c.args.u *ℤ c.args.v) = within_product c.requires.u unit in
    let near : IsWithin 65536 (int_div_euclid (c.args.u *ℤ c.args.v) (pos 65536)) = quotient_within 65536 65536 (c.args.u *ℤ c.args.v) (lit< tt) (record { within = omega (arith, small.within) }) in
    rw value (record { within = omega (arith, ints, near.within) })
