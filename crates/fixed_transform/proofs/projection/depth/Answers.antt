use Rattle.std.proofs.Common.{◌≡◌, negsuc, ◌*◌, pos, ◌-ℤ◌, ◌*ℤ◌, neg_ℤ, ap, ◌∙◌, arith, rules, w32, w64, to_z, of_z}
use Rattle.std.proofs.lemmas.Int.{ints, to_z-of_z}
use Rattle.fixed_transform.specs.Fixed.{IsWithin, clamp_i32}
use Rattle.fixed_transform.specs.Projection.{depth_of}
use Rattle.fixed_transform.proofs.Bounds.{floor-same, within_product}
use Rattle.fixed_transform.proofs.projection.depth.Goals as goal

pub returns : goal.returns
unfolding depth_of
returns c =
    let far : to_z w64 (of_z w64 (to_z w32 (of_z w32 c.args.far))) ≡ c.args.far = omega (arith, ints) in
    let near : to_z w64 (of_z w64 (to_z w32 (of_z w32 c.args.near))) ≡ c.args.near = omega (arith, ints) in
    let bound : IsWithin (2147483647 * 2147483647) (c.args.far *ℤ c.args.near) =
    within_product {m = 2147483647} {n = 2147483647} {a = c.args.far} {b = c.args.near} (record { within = omega (arith, ints) }) (record { within = omega (arith, ints) })
    in
    let product : to_z w64 (of_z w64 (to_z w64 (of_z w64 (to_z w32 (of_z w32 c.args.far))) *ℤ to_z w64 (of_z w64 (to_z w32 (of_z w32 c.args.near))))) ≡ c.args.far *ℤ c.args.near =
    rw (far, near) (omega (arith, ints, bound.within))
    in
    let dividend : to_z w64 (of_z w64 (negsuc 1 *ℤ to_z w64 (of_z w64 (to_z w64 (of_z w64 (to_z w32 (of_z w32 c.args.far))) *ℤ to_z w64 (of_z w64 (to_z w32 (of_z w32 c.args.near))))))) ≡ neg_ℤ (pos 2 *ℤ (c.args.far *ℤ c.args.near)) =
    rw product (omega (arith, ints, bound.within))
    in
    let divisor : to_z w64 (of_z w64 c.difference.result) ≡ c.args.far -ℤ c.args.near = omega (arith, ints) in
    to_z-of_z w32 c.clamped.result (search rules) ∙ c.clamped.ensures
    ∙ ap clamp_i32 (to_z-of_z w64 c.floor_of.result (search rules) ∙ c.floor_of.ensures ∙ floor-same dividend divisor)
