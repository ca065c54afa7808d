use Rattle.std.proofs.Common.{ℕ, ap, ◌∙◌, w32}
use Rattle.std.proofs.lemmas.Int.{to_z-of_z}
use Rattle.texture_units.specs.Place.{nearest_of}
use Rattle.texture_units.specs.Sample.{nearest}
use Rattle.texture_units.proofs.Samples.{texel-same}
use Rattle.texture_units.proofs.texture.Texture.nearest.Goals as goal

pub returns : goal.returns
unfolding nearest
returns c =
    let sampling = c.args.sampling.now in
    texel-same c.args.self.now c.nearest-column.result c.nearest-row.result _ _ c.texel.result c.texel.ensures
    (c.nearest-column.ensures.value ∙ ap (nearest_of sampling.clamp_s c.width-width.result) (to_z-of_z w32 c.args.s c.ranges.s)
    ∙ ap (λ (n : ℕ). nearest_of sampling.clamp_s n c.args.s) c.width-width.ensures.value)
    (c.nearest-row.ensures.value ∙ ap (nearest_of sampling.clamp_t c.height-height.result) (to_z-of_z w32 c.args.t c.ranges.t)
    ∙ ap (λ (n : ℕ). nearest_of sampling.clamp_t n c.args.t) c.height-height.ensures.value)
