use Rattle.std.proofs.Common.{ℤ, ap, ◌∙◌, rules, w32, to_z, of_z}
use Rattle.std.proofs.lemmas.Int.{to_z-of_z}
use Rattle.texture_units.specs.Place.{coordinate_of}
use Rattle.texture_units.proofs.Samples.{linear-sampled, nearest-sampled}
use Rattle.texture_units.proofs.texture.sample.Goals as goal

pub returns-then-linear : goal.returns-then-linear
returns-then-linear c =
    let q = to_z-of_z w32 c.args.q c.ranges.q in
    c.linear.ensures
    ∙ linear-sampled c.args.texture.now c.args.sampling.now c.args.s c.args.t c.args.q _ _ c.if-linear.true
    (to_z-of_z w32 c.over-at_s.result (search rules) ∙ c.over-at_s.ensures
    ∙ ap (λ (z : ℤ). coordinate_of z (to_z w32 (of_z w32 c.args.q))) (to_z-of_z w32 c.args.s c.ranges.s) ∙ ap (coordinate_of c.args.s) q)
    (to_z-of_z w32 c.over-at_t.result (search rules) ∙ c.over-at_t.ensures
    ∙ ap (λ (z : ℤ). coordinate_of z (to_z w32 (of_z w32 c.args.q))) (to_z-of_z w32 c.args.t c.ranges.t) ∙ ap (coordinate_of c.args.t) q)

pub returns : goal.returns
returns c =
    let q = to_z-of_z w32 c.args.q c.ranges.q in
    c.nearest.ensures
    ∙ nearest-sampled c.args.texture.now c.args.sampling.now c.args.s c.args.t c.args.q _ _ c.if-linear.false
    (to_z-of_z w32 c.over-at_s.result (search rules) ∙ c.over-at_s.ensures
    ∙ ap (λ (z : ℤ). coordinate_of z (to_z w32 (of_z w32 c.args.q))) (to_z-of_z w32 c.args.s c.ranges.s) ∙ ap (coordinate_of c.args.s) q)
    (to_z-of_z w32 c.over-at_t.result (search rules) ∙ c.over-at_t.ensures
    ∙ ap (λ (z : ℤ). coordinate_of z (to_z w32 (of_z w32 c.args.q))) (to_z-of_z w32 c.args.t c.ranges.t) ∙ ap (coordinate_of c.args.t) q)
