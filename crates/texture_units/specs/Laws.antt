-- What the definitions come to: weights that sum to 1, samples among what they are made of, and NEAREST inside the sides.
use Rattle.std.specs.Prelude.{◌≡◌, ℕ, ◌+◌, ◌*◌, ◌<◌, ◌≤◌, ℤ, pos, ◌<ℤ◌, ◌≤ℤ◌, true, false, slice_index}
use Rattle.texture_units.specs.declared.sampling.Sampling.{Sampling}
use Rattle.texture_units.specs.Texture.{TextureView, texel_at}
use Rattle.texture_units.specs.Place.{along, coordinate_of}
use Rattle.texture_units.specs.Sample.{Texels, Weights, sampled, texels_round}

-- the sum of the weights of four texels; own
abbrev pub sum_of : Weights → ℕ
sum_of weights = weights.first + weights.along_s + weights.along_t + weights.along_both

-- a number is at least this and at most that; own
pub record IsFromTo (low high number : ℕ) : Type 0 where
  pub from : low ≤ number
  pub to : number ≤ high

-- a channel of each of four texels is at least this and at most that; own
pub record AreFromTo (low high channel : ℕ) (texels : Texels) : Type 0 where
  pub first : IsFromTo low high (slice_index texels.first channel)
  pub along_s : IsFromTo low high (slice_index texels.along_s channel)
  pub along_t : IsFromTo low high (slice_index texels.along_t channel)
  pub along_both : IsFromTo low high (slice_index texels.along_both channel)

-- LINEAR keeps a channel of a sample among that of the four texels that it is made of; section 3.7.7
abbrev pub LiesAmongFour : TextureView → Sampling → ℤ → ℤ → ℤ → Type 0
LiesAmongFour texture sampling s t q =
    (low high channel : ℕ) → channel < 4 → sampling.linear ≡ true
    → AreFromTo low high channel (texels_round texture sampling (coordinate_of s q) (coordinate_of t q))
    → IsFromTo low high (slice_index (sampled texture sampling s t q) channel)

-- a coordinate lies in the texel at this place on a side; section 3.7.7
pub record LiesIn (place side : ℕ) (coordinate : ℤ) : Type 0 where
  pub from : pos (place * 65536) ≤ℤ along coordinate side
  pub before : along coordinate side <ℤ pos (place * 65536 + 65536)

-- NEAREST gives at a point inside the sides the texel in which it lies, whatever the wrap; section 3.7.7
abbrev pub IsNearestInside : TextureView → Sampling → ℤ → ℤ → ℤ → Type 0
IsNearestInside texture sampling s t q =
    (column row : ℕ) → sampling.linear ≡ false → column < texture.width → row < texture.height
    → LiesIn column texture.width (coordinate_of s q) → LiesIn row texture.height (coordinate_of t q)
    → sampled texture sampling s t q ≡ texel_at texture column row
