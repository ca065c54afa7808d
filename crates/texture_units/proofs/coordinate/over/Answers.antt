use Rattle.std.proofs.Common.{◌≡◌, pos, sym, ◌∙◌, arith, w32}
use Rattle.std.proofs.lemmas.Int.{ints, to_z-of_z}
use Rattle.texture_units.proofs.Coordinates.{coordinate_of-one}
use Rattle.texture_units.proofs.coordinate.over.Goals as goal

pub returns-then-q-eq-ONE : goal.returns-then-q-eq-ONE
returns-then-q-eq-ONE c =
    let one : c.args.q ≡ pos 65536 = omega (arith, ints) in
    to_z-of_z w32 c.args.number c.ranges.number ∙ sym (coordinate_of-one c.args.number c.args.q c.ranges.number one)
