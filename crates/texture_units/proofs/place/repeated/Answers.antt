use Rattle.std.proofs.Common.{◌≡◌, pos, ◌+ℤ◌, ◌∙◌, arith}
use Rattle.std.proofs.lemmas.Int.{ints}
use Rattle.texture_units.proofs.Sides.{repeated_above}
use Rattle.texture_units.proofs.place.repeated.Goals as goal

pub returns-clause-value : goal.returns-clause-value
returns-clause-value c =
    let is : pos c.above.result ≡ c.args.texel +ℤ pos 33554432 = omega (arith, ints) in
    c.lower_bits.ensures.value ∙ repeated_above c.args.side c.above.result c.args.texel c.requires.side is
