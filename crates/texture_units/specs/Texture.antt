-- A texture: its sides, its bytes, the texel at a place, and whether it is complete.
use Rattle.std.specs.Prelude.{◌≡◌, ℕ, ◌+◌, ◌*◌, ◌≤◌, ◌==◌, Bool, true, false, ◌&&◌, ◌||◌, List, [], ◌∷◌, length}
use Rattle.std.specs.List.{list_any}
use Rattle.texture_units.specs.declared.format.Format.{Format}
use Rattle.texture_units.specs.declared.sampling.MinFilter.{MinFilter}
use Rattle.texture_units.specs.declared.sampling.MinFilter.TheVariants.{Nearest, Linear, Mipmap}
use Rattle.texture_units.specs.declared.sampling.Sampling.{Sampling}
use Rattle.texture_units.specs.Format.{colour_at, size_of}

-- a rectangle of texels: their format, its sides in texels, and their bytes row by row from t = 0 on, each row in rising s, with nothing between; section 3.7.1
pub record TextureView : Type 0 where
  pub format : Format
  pub width : ℕ
  pub height : ℕ
  pub bytes : List ℕ

-- a rectangle of texels of this format, with these sides and bytes; own
abbrev pub rectangle_of : Format → ℕ → ℕ → List ℕ → TextureView
rectangle_of format width height bytes = record { format = format; width = width; height = height; bytes = bytes }

-- a rectangle has the bytes of its texels and no others; own
pub record HasItsBytes (view : TextureView) : Type 0 where
  pub count : length view.bytes ≡ view.width * view.height * size_of view.format

-- whether a number is a power of two up to 256; own
unfoldable pub is_power : ℕ → Bool
is_power number = list_any (λ known. known == number) (1 ∷ 2 ∷ 4 ∷ 8 ∷ 16 ∷ 32 ∷ 64 ∷ 128 ∷ 256 ∷ [])

-- a number is a side that a texture may have, in texels: 1 to 256, and a power of two; section 3.7.1, the greatest own
pub record IsSide (number : ℕ) : Type 0 where
  pub some : 1 ≤ number
  pub most : number ≤ 256
  pub power : is_power number ≡ true

-- a texture's sides are ones that it may have, and it has the bytes of its texels; own
pub record IsTexture (texture : TextureView) : Type 0 where
  pub wide : IsSide texture.width
  pub high : IsSide texture.height
  pub whole : HasItsBytes texture

-- the colour of the texel in a column and a row, both counted from 0: red, green, blue and alpha, a byte each; section 3.7.1
unfoldable pub texel_at : TextureView → ℕ → ℕ → List ℕ
texel_at view column row = colour_at view.format view.bytes ((row * view.width + column) * size_of view.format)

-- whether a filter for what is made smaller reads one level of a texture alone; section 3.7.7
abbrev pub reads_one_level : MinFilter → Bool
reads_one_level Nearest = true
reads_one_level Linear = true
reads_one_level Mipmap = false

-- whether a texture that has an image at level 0 and no other is complete: its filter reads one level alone, or level 0 is all that there can be; section 3.7.9
unfoldable pub is_complete : TextureView → Sampling → Bool
is_complete texture sampling = reads_one_level sampling.min || (texture.width == 1 && texture.height == 1)
