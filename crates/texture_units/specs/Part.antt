-- A part of a texture that is replaced: what stands where afterwards, texel by texel and byte by byte.
use Rattle.std.specs.Prelude.{◌≡◌, ℕ, ◌+◌, ◌-◌, ◌*◌, ◌/◌, ◌%◌, ◌<◌, ◌≤◌, nat_le, nat_lt, Bool, ◌&&◌, if◌then◌else◌, List, length, map, slice_index}
use Rattle.std.specs.List.{range_with_len}
use Rattle.texture_units.specs.Format.{size_of}
use Rattle.texture_units.specs.Texture.{HasItsBytes, TextureView, texel_at}

-- a rectangle of texels can replace those of a texture from a column and a row on: it has the texture's format, lies inside, and has its bytes; section 3.7.2
pub record FitsAt (x y : ℕ) (part texture : TextureView) : Type 0 where
  pub same_format : part.format ≡ texture.format
  pub within_width : x + part.width ≤ texture.width
  pub within_height : y + part.height ≤ texture.height
  pub whole : HasItsBytes part

-- whether a number is one of so many from a first one on; own
abbrev pub is_among : ℕ → ℕ → ℕ → Bool
is_among first count number = nat_le first number && nat_lt number (first + count)

-- the texel in a column and a row after a rectangle has replaced those from column x and row y on: the rectangle's, or outside it the old one; section 3.7.2
unfoldable pub texel_after : ℕ → ℕ → TextureView → TextureView → ℕ → ℕ → List ℕ
texel_after x y part old column row =
    if is_among x part.width column && is_among y part.height row then texel_at part (column - x) (row - y) else texel_at old column row

-- a texture whose texels from column x and row y on a rectangle has replaced: its format and sides stay, and each texel is as told; section 3.7.2
pub record TakesPart (x y : ℕ) (part old new : TextureView) : Type 0 where
  pub same_format : new.format ≡ old.format
  pub same_width : new.width ≡ old.width
  pub same_height : new.height ≡ old.height
  pub texels : (column row : ℕ) → column < old.width → row < old.height → texel_at new column row ≡ texel_after x y part old column row

-- a rectangle of bytes in rows of so many bytes: the first byte of a row that it has, how many of each row, and the same of its rows; own
pub record Block : Type 0 where
  pub stride : ℕ
  pub first : ℕ
  pub run : ℕ
  pub bottom : ℕ
  pub rows : ℕ

-- a rectangle of so many rows of `run` bytes each in rows of `stride` bytes, from a byte of a row and from a row on; own
abbrev pub block : ℕ → ℕ → ℕ → ℕ → ℕ → Block
block stride first run bottom rows = record { stride = stride; first = first; run = run; bottom = bottom; rows = rows }

-- whether a rectangle of bytes has the byte at this place; own
abbrev pub is_in_block : Block → ℕ → Bool
is_in_block block at = is_among block.bottom block.rows (at / block.stride) && is_among block.first block.run (at % block.stride)

-- the place among the rectangle's own bytes of the byte at this place; own
abbrev pub place_in_block : Block → ℕ → ℕ
place_in_block block at = (at / block.stride - block.bottom) * block.run + (at % block.stride - block.first)

-- the byte at a place after a rectangle's bytes have replaced the old ones; own
unfoldable pub byte_after : Block → List ℕ → List ℕ → ℕ → ℕ
byte_after block part old at = if is_in_block block at then slice_index part (place_in_block block at) else slice_index old at

-- bytes after those of a rectangle have replaced the old ones; own
unfoldable pub bytes_after : Block → List ℕ → List ℕ → List ℕ
bytes_after block part old = map (byte_after block part old) (range_with_len 0 (length old))

-- the bytes that a rectangle of texels takes in a texture, from a column and a row on; own
abbrev pub block_of : ℕ → ℕ → TextureView → TextureView → Block
block_of x y part texture =
    block (texture.width * size_of texture.format) (x * size_of texture.format) (part.width * size_of texture.format) y part.height

-- a texture after a rectangle of texels has replaced those from column x and row y on, by its bytes; section 3.7.2
unfoldable pub with_part : ℕ → ℕ → TextureView → TextureView → TextureView
with_part x y part old = record old { bytes = bytes_after (block_of x y part old) part.bytes old.bytes }
