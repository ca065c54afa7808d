-- The texture environment: what a texel makes of a fragment's colour, by mode and format.
use Rattle.std.specs.Prelude.{ℕ, ◌+◌, ◌-◌, ◌*◌, ◌/◌, min, List, [], ◌∷◌, slice_index}
use Rattle.texture_units.specs.declared.format.Format.{Format}
use Rattle.texture_units.specs.declared.format.Format.TheVariants.{Alpha, Luminance, Rgb, Rgba}
use Rattle.texture_units.specs.declared.environment.EnvMode.{EnvMode}
use Rattle.texture_units.specs.declared.environment.EnvMode.TheVariants.{Replace, Modulate, Decal, Blend, Add}

-- the product of two bytes that stand for 0 to 1, as such a byte; own
unfoldable pub byte_product : ℕ → ℕ → ℕ
byte_product a b = (a * b + 127) / 255

-- the sum of two bytes, cut at 1; section 3.7.12
unfoldable pub byte_sum : ℕ → ℕ → ℕ
byte_sum a b = min 255 (a + b)

-- of two bytes so much of the first as a third one lacks to 1, and so much of the second as it has; section 3.7.12
abbrev pub byte_mix : ℕ → ℕ → ℕ → ℕ
byte_mix one other share = byte_sum (byte_product one (255 - share)) (byte_product other share)

-- red, green or blue after a unit, from the fragment's part, the texel's part and alpha, and the environment's part; section 3.7.12, DECAL of all formats but RGB and RGBA own
abbrev pub part_after : EnvMode → Format → ℕ → ℕ → ℕ → ℕ → ℕ
part_after mode Alpha fragment texel alpha constant = fragment
part_after Replace format fragment texel alpha constant = texel
part_after Modulate format fragment texel alpha constant = byte_product fragment texel
part_after Decal Rgb fragment texel alpha constant = texel
part_after Decal Rgba fragment texel alpha constant = byte_mix fragment texel alpha
part_after Decal format fragment texel alpha constant = fragment
part_after Blend format fragment texel alpha constant = byte_mix fragment constant texel
part_after Add format fragment texel alpha constant = byte_sum fragment texel

-- alpha after a unit, from the fragment's and the texel's; section 3.7.12, DECAL of all formats but RGB and RGBA own
abbrev pub alpha_after : EnvMode → Format → ℕ → ℕ → ℕ
alpha_after mode Luminance fragment texel = fragment
alpha_after mode Rgb fragment texel = fragment
alpha_after Replace format fragment texel = texel
alpha_after Decal format fragment texel = fragment
alpha_after mode format fragment texel = byte_product fragment texel

-- a fragment's colour after a unit whose texture gave a texel of a format, with the environment's colour: red, green, blue and alpha, a byte each; section 3.7.12
unfoldable pub combined : EnvMode → Format → List ℕ → List ℕ → List ℕ → List ℕ
combined mode format fragment texel constant =
    part_after mode format (slice_index fragment 0) (slice_index texel 0) (slice_index texel 3) (slice_index constant 0)
    ∷ part_after mode format (slice_index fragment 1) (slice_index texel 1) (slice_index texel 3) (slice_index constant 1)
    ∷ part_after mode format (slice_index fragment 2) (slice_index texel 2) (slice_index texel 3) (slice_index constant 2)
    ∷ alpha_after mode format (slice_index fragment 3) (slice_index texel 3)
    ∷ []
