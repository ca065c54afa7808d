use Rattle.std.proofs.Common.{◌≡◌, ℤ, pos, ◌<ℤ◌, ◌*ℤ◌, sym, ap, ◌∙◌, rules, arith, w32, w64, to_z, of_z}
use Rattle.std.proofs.lemmas.Int.{ints, to_z-of_z}
use Rattle.texture_units.specs.Place.{clamp_i32}
use Rattle.texture_units.proofs.Coordinates.{coordinate_of-none, coordinate_of-some, quotient-same}
use Rattle.texture_units.proofs.coordinate.divided.Goals as goal

pub returns-then-q-le0 : goal.returns-then-q-le0
returns-then-q-le0 c = sym (coordinate_of-none c.args.number c.args.q (omega (arith, ints)))

pub returns : goal.returns
returns c =
    let some : pos 0 <ℤ c.args.q = omega (arith, ints) in
    let divisor : to_z w64 (of_z w64 (to_z w32 (of_z w32 c.args.q))) ≡ c.args.q = omega (arith, ints) in
    to_z-of_z w32 c.clamped.result (search rules) ∙ c.clamped.ensures
    ∙ ap clamp_i32 (to_z-of_z w64 c.quotient.result (search rules) ∙ c.quotient.ensures
    ∙ quotient-same (to_z-of_z w64 c.scaled.result (search rules) ∙ c.scaled.ensures ∙ ap (λ (z : ℤ). z *ℤ pos 65536) (to_z-of_z w32 c.args.number c.ranges.number)) divisor)
    ∙ coordinate_of-some c.args.number c.args.q some
