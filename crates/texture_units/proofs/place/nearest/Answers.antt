use Rattle.std.proofs.Common.{ℤ, pos, ◌*ℤ◌, ap, ◌∙◌, rules, w32, w64}
use Rattle.std.proofs.lemmas.Int.{to_z-of_z}
use Rattle.texture_units.specs.Place.{place_of, texel_of}
use Rattle.texture_units.proofs.place.nearest.Goals as goal

pub returns-clause-value : goal.returns-clause-value
returns-clause-value c =
    c.place.ensures.value
    ∙ ap (place_of c.args.clamp c.args.side)
    (to_z-of_z w32 c.whole.result (search rules) ∙ c.whole.ensures.value
    ∙ ap texel_of (to_z-of_z w64 c.along.result (search rules) ∙ c.along.ensures.value
    ∙ ap (λ (z : ℤ). z *ℤ pos c.args.side) (to_z-of_z w32 c.args.coordinate c.ranges.coordinate)))
