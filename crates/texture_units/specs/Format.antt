-- The formats of texels: how many bytes a texel has, and which colour they are. No texture stands here.
use Rattle.std.specs.Prelude.{ℕ, ◌+◌, List, [], ◌∷◌, slice_index}
use Rattle.texture_units.specs.declared.format.Format.{Format}
use Rattle.texture_units.specs.declared.format.Format.TheVariants.{Alpha, Luminance, LuminanceAlpha, Rgb, Rgba}

-- how many bytes a texel has; sections 3.6.2 and 3.7.1
abbrev pub size_of : Format → ℕ
size_of Alpha = 1
size_of Luminance = 1
size_of LuminanceAlpha = 2
size_of Rgb = 3
size_of Rgba = 4

-- a colour whose red, green and blue are the same; section 3.7.1
abbrev pub grey : ℕ → ℕ → List ℕ
grey luminance alpha = luminance ∷ luminance ∷ luminance ∷ alpha ∷ []

-- the colour of the texel whose bytes begin at a place among these bytes, red, green, blue and alpha: what a format leaves out is 0, and an alpha that it leaves out is 255; sections 3.6.2 and 3.7.1
unfoldable pub colour_at : Format → List ℕ → ℕ → List ℕ
colour_at Alpha bytes at = grey 0 (slice_index bytes at)
colour_at Luminance bytes at = grey (slice_index bytes at) 255
colour_at LuminanceAlpha bytes at = grey (slice_index bytes at) (slice_index bytes (at + 1))
colour_at Rgb bytes at = slice_index bytes at ∷ slice_index bytes (at + 1) ∷ slice_index bytes (at + 2) ∷ 255 ∷ []
colour_at Rgba bytes at = slice_index bytes at ∷ slice_index bytes (at + 1) ∷ slice_index bytes (at + 2) ∷ slice_index bytes (at + 3) ∷ []
