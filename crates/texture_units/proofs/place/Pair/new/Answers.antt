use Rattle.std.proofs.Common.{◌/◌, ℤ, pos, ◌+ℤ◌, unsigned_abs, ap, ◌∙◌, rules, w32, w64}
use Rattle.std.specs.Int.{int_rem_euclid}
use Rattle.std.proofs.lemmas.Int.{to_z-of_z}
use Rattle.texture_units.specs.Place.{first_of, past_centre, place_of, second_of, share_of, texel_of}
use Rattle.texture_units.proofs.place.Pair.new.Goals as goal

pub returns-clause-first : goal.returns-clause-first
unfolding first_of
returns-clause-first c =
    c.place-first.ensures.value
    ∙ ap (place_of c.args.clamp c.args.side)
    (to_z-of_z w32 c.whole-texel.result (search rules) ∙ c.whole-texel.ensures.value
    ∙ ap texel_of (to_z-of_z w64 c.past_centre-far.result (search rules) ∙ c.past_centre-far.ensures.value
    ∙ ap (λ (z : ℤ). past_centre z c.args.side) (to_z-of_z w32 c.args.coordinate c.ranges.coordinate)))

pub returns-clause-second : goal.returns-clause-second
unfolding second_of
returns-clause-second c =
    c.place-second.ensures.value
    ∙ ap (place_of c.args.clamp c.args.side)
    (to_z-of_z w32 c.after-next.result (search rules) ∙ c.after-next.ensures.value
    ∙ ap (λ (z : ℤ). z +ℤ pos 1) (to_z-of_z w32 c.whole-texel.result (search rules) ∙ c.whole-texel.ensures.value
    ∙ ap texel_of (to_z-of_z w64 c.past_centre-far.result (search rules) ∙ c.past_centre-far.ensures.value
    ∙ ap (λ (z : ℤ). past_centre z c.args.side) (to_z-of_z w32 c.args.coordinate c.ranges.coordinate))))

pub returns-clause-share : goal.returns-clause-share
unfolding share_of
returns-clause-share c =
    ap (λ (z : ℤ). unsigned_abs z / 256)
    (c.rest-share.ensures.value
    ∙ ap (λ (z : ℤ). int_rem_euclid z (pos 65536)) (to_z-of_z w64 c.past_centre-far.result (search rules) ∙ c.past_centre-far.ensures.value
    ∙ ap (λ (z : ℤ). past_centre z c.args.side) (to_z-of_z w32 c.args.coordinate c.ranges.coordinate)))
