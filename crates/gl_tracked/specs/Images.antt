-- Images of textures as they lie in memory: row by row, each row but the last padded to an alignment; sections 3.6.2 and 3.7.1. No texel is read here.
use Rattle.std.specs.Prelude.{ℕ, zero, suc, ◌+◌, ◌-◌, ◌*◌, ◌/◌, ◌==◌, nat_le, ◌||◌, ℤ, pos, if◌then◌else◌, List, [], ◌∷◌}
use Rattle.gl_tracked.specs.Count.{count_of}

-- the sides that an image may have, in texels; section 3.7.1, the greatest own
abbrev pub image_sides : List ℤ
image_sides = pos 1 ∷ pos 2 ∷ pos 4 ∷ pos 8 ∷ pos 16 ∷ pos 32 ∷ pos 64 ∷ pos 128 ∷ pos 256 ∷ []

-- how many bytes a texel has, by its format: one of ALPHA and LUMINANCE, two of LUMINANCE_ALPHA, three of RGB, four of RGBA; section 3.6.2
unfoldable pub texel_size : ℕ → ℕ
texel_size format =
    if format == 0x1906 then 1 else (
    if format == 0x1907 then 3 else (
    if format == 0x1908 then 4 else (
    if format == 0x1909 then 1 else (
    if format == 0x190A then 2 else 0))))

-- from one row of an image to the next in memory: the bytes of a row, rounded up to a multiple of the alignment; section 3.6.2
unfoldable pub pitch_of : ℕ → ℕ → ℕ
pitch_of zero row = row
pitch_of (suc less) row = (row + less) / suc less * suc less

-- how many bytes an image takes in memory, by the alignment, the bytes of a texel, and its sides in texels: the last row isn't padded, and there are none where a side is 0; section 3.6.2
unfoldable pub image_length : ℕ → ℕ → ℕ → ℕ → ℕ
image_length alignment texel width height =
    if width == 0 || height == 0 then 0 else (height - 1) * pitch_of alignment (width * texel) + width * texel

-- how many texels a side of an image has: none where that is an error, which it is below zero and above 256; sections 3.7.1 and 3.7.2, the most own
unfoldable pub side_of : ℤ → ℕ
side_of side = if nat_le (count_of side) 256 then count_of side else 0
