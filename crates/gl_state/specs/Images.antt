-- Images of textures as calls hand them over: what the numbers of formats and of modes stand for, and the bytes of an image in memory without the padding of its rows; sections 3.6.2, 3.7.1 and 3.7.12. What becomes of an image stands in gl_objects.
use Rattle.std.specs.Prelude.{ℕ, ◌+◌, ◌*◌, ◌==◌, ℤ, if◌then◌else◌, List, [], ◌∷◌, replicate}
use Rattle.std.specs.List.{flat_map, range_with_len}
use Rattle.gl_memory.specs.Number.{i32_at}
use Rattle.gl_memory.specs.Piece.{bytes_from}
use Rattle.gl_memory.specs.Segment.{Segment}
use Rattle.texture_units.specs.declared.environment.EnvMode.{EnvMode}
use Rattle.texture_units.specs.declared.environment.EnvMode.TheVariants.{Add, Blend, Decal, Modulate, Replace}
use Rattle.texture_units.specs.declared.format.Format.{Format}
use Rattle.texture_units.specs.declared.format.Format.TheVariants.{Alpha, Luminance, LuminanceAlpha, Rgb, Rgba}
use Rattle.gl_state.specs.Settings.{clamped_to_one}

-- the format with a number: RGB, RGBA, LUMINANCE, LUMINANCE_ALPHA, else ALPHA; section 3.7.1
unfoldable pub format_of : ℕ → Format
format_of number =
    if number == 0x1907 then Rgb else (
    if number == 0x1908 then Rgba else (
    if number == 0x1909 then Luminance else (
    if number == 0x190A then LuminanceAlpha else Alpha)))

-- the mode of an environment with a number: ADD, BLEND, REPLACE, DECAL, else MODULATE; section 3.7.12
unfoldable pub mode_of : ℕ → EnvMode
mode_of number =
    if number == 0x0104 then Add else (
    if number == 0x0BE2 then Blend else (
    if number == 0x1E01 then Replace else (
    if number == 0x2101 then Decal else Modulate)))

-- so many rows of an image, of so many bytes each, from a place of memory on: each begins a pitch after the one before it, and what lies between them is left out; section 3.6.2
unfoldable pub rows_from : List Segment → ℕ → ℕ → ℕ → ℕ → List ℕ
rows_from memory source pitch run rows = flat_map (λ row. bytes_from memory (source + row * pitch) run) (range_with_len 0 rows)

-- the bytes of an image of so many rows, of so many bytes each: its rows from a place of memory on, and zeros where the place is 0; section 3.7.1, the last own
unfoldable pub image_uploaded : List Segment → ℕ → ℕ → ℕ → ℕ → List ℕ
image_uploaded memory source pitch run rows = if source == 0 then replicate (rows * run) 0 else rows_from memory source pitch run rows

-- a part of a colour that lies from a place of memory on, of four bytes, clamped to 0 to 1; section 3.7.12
abbrev pub part_from : List Segment → ℕ → ℕ → ℤ
part_from memory place part = clamped_to_one (i32_at memory (place + 4 * part))

-- the colour of an environment that lies from a place of memory on: red, green, blue and alpha, each clamped to 0 to 1; section 3.7.12, that it is clamped as it is set own
unfoldable pub colour_from : List Segment → ℕ → List ℤ
colour_from memory place = part_from memory place 0 ∷ part_from memory place 1 ∷ part_from memory place 2 ∷ part_from memory place 3 ∷ []
