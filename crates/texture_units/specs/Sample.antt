-- What a texture gives at a coordinate: one texel, or four by their weights.
use Rattle.std.specs.Prelude.{ℕ, ◌+◌, ◌-◌, ◌*◌, ◌/◌, ℤ, if◌then◌else◌, List, [], ◌∷◌, map, slice_index}
use Rattle.texture_units.specs.declared.sampling.Sampling.{Sampling}
use Rattle.texture_units.specs.Texture.{TextureView, texel_at}
use Rattle.texture_units.specs.Place.{coordinate_of, first_of, nearest_of, second_of, share_of}

-- the channels of a colour, by their places: red, green, blue, alpha; own
abbrev pub channels : List ℕ
channels = 0 ∷ 1 ∷ 2 ∷ 3 ∷ []

-- how much each of four texels round a point weighs, in 65,536ths: the first of both sides, the one after it along s, the one after it along t, and the one after it along both; section 3.7.7
pub record Weights : Type 0 where
  pub first : ℕ
  pub along_s : ℕ
  pub along_t : ℕ
  pub along_both : ℕ

-- the colours of these four texels; section 3.7.7
pub record Texels : Type 0 where
  pub first : List ℕ
  pub along_s : List ℕ
  pub along_t : List ℕ
  pub along_both : List ℕ

-- four colours as those of these texels; own
abbrev pub four_colours : List ℕ → List ℕ → List ℕ → List ℕ → Texels
four_colours one two three four = record { first = one; along_s = two; along_t = three; along_both = four }

-- the weights for shares along s and along t, in 256ths; section 3.7.7
unfoldable pub weights_of : ℕ → ℕ → Weights
weights_of a b = record { first = (256 - a) * (256 - b); along_s = a * (256 - b); along_t = (256 - a) * b; along_both = a * b }

-- a channel of the mean of four colours by their weights, rounded to the nearest; section 3.7.7, the rounding own
unfoldable pub mean_at : Weights → Texels → ℕ → ℕ
mean_at weights texels channel =
    (weights.first * slice_index texels.first channel + weights.along_s * slice_index texels.along_s channel
    + weights.along_t * slice_index texels.along_t channel + weights.along_both * slice_index texels.along_both channel + 32768) / 65536

-- the four texels that LINEAR reads; section 3.7.7
unfoldable pub texels_round : TextureView → Sampling → ℤ → ℤ → Texels
texels_round texture sampling s t =
    let column = first_of sampling.clamp_s texture.width s in
    let next_column = second_of sampling.clamp_s texture.width s in
    let row = first_of sampling.clamp_t texture.height t in
    let next_row = second_of sampling.clamp_t texture.height t in
    four_colours (texel_at texture column row) (texel_at texture next_column row) (texel_at texture column next_row) (texel_at texture next_column next_row)

-- NEAREST: the texel in which a point lies; sections 3.7.7 and 3.7.8
unfoldable pub nearest : TextureView → Sampling → ℤ → ℤ → List ℕ
nearest texture sampling s t = texel_at texture (nearest_of sampling.clamp_s texture.width s) (nearest_of sampling.clamp_t texture.height t)

-- LINEAR: the mean of the four texels round a point, channel by channel; sections 3.7.7 and 3.7.8
unfoldable pub linear : TextureView → Sampling → ℤ → ℤ → List ℕ
linear texture sampling s t =
    map (mean_at (weights_of (share_of texture.width s) (share_of texture.height t)) (texels_round texture sampling s t)) channels

-- what a texture gives at s, t and q, by the filter for what is made larger; section 3.7.8, that this filter is used for every sample own
unfoldable pub sampled : TextureView → Sampling → ℤ → ℤ → ℤ → List ℕ
sampled texture sampling s t q =
    if sampling.linear then linear texture sampling (coordinate_of s q) (coordinate_of t q)
    else nearest texture sampling (coordinate_of s q) (coordinate_of t q)
