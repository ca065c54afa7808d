use Rattle.std.proofs.Common.{◌≡◌, ◌^◌, ◌≤◌, ℤ, ◌*ℤ◌, unsigned_abs, w32, w64, to_z, of_z, sym, subst, rules, arith}
use Rattle.std.proofs.lemmas.Grind.{common_steps}
use Rattle.std.proofs.lemmas.Int.{ints}
use Rattle.texture_units.specs.Place.{along}
use Rattle.texture_units.proofs.Coordinates.{along_near}
use Rattle.texture_units.proofs.coordinate.along.Goals as goal

pub returns-clause-near : goal.returns-clause-near
returns-clause-near c =
    let near : unsigned_abs c.args.coordinate ≤ 2 ^ 31 = omega (arith, ints) in
    let value : to_z w64 (of_z w64 (to_z w64 (of_z w64 (to_z w32 (of_z w32 c.args.coordinate))) *ℤ to_z w64 (of_z w64 c.from.result))) ≡ along c.args.coordinate c.args.side =
    first_of (search rules, grind (arith, common_steps)) in
    subst (λ (z : ℤ). unsigned_abs z ≤ 2 ^ 39) (sym value) (along_near c.args.coordinate c.args.side near c.requires.most)
