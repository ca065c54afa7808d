use Rattle.std.proofs.Common.{◌≡◌, ℕ, List, length, ap, ◌∙◌, arith}
use Rattle.texture_units.specs.declared.format.Format.{Format}
use Rattle.texture_units.specs.Format.{colour_at, size_of}
use Rattle.texture_units.specs.Texture.{texel_at}
use Rattle.texture_units.proofs.texture.Texture.texel_here.Goals as goal

pub colour-requires : goal.colour-requires
colour-requires c =
    let size : size_of c.format.result ≡ size_of c.args.self.now.format = ap size_of c.format.ensures in
    let count : length c.bytes.result.now ≡ length c.args.self.now.bytes = ap (λ (l : List ℕ). length l) c.bytes.ensures.bytes in
    let inside = c.first_byte-at.ensures.inside in
    omega arith

pub returns : goal.returns
unfolding texel_at
returns c =
    c.colour.ensures
    ∙ ap (λ (f : Format). colour_at f c.bytes.result.now c.first_byte-at.result) c.format.ensures
    ∙ ap (λ (l : List ℕ). colour_at c.args.self.now.format l c.first_byte-at.result) c.bytes.ensures.bytes
    ∙ ap (colour_at c.args.self.now.format c.args.self.now.bytes) c.first_byte-at.ensures.value
