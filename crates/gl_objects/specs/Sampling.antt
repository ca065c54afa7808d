-- How textures are read: what TexParameteri sets, and which values it takes (section 3.7.4). No texel is read here.
use Rattle.std.specs.Prelude.{◌≡◌, ℕ, ◌==◌, ℤ, pos, true, false, if◌then◌else◌, List, [], ◌∷◌}
use Rattle.std.specs.Ordering.{int_eq}
use Rattle.std.specs.List.{list_any}
use Rattle.texture_units.specs.declared.sampling.MinFilter.{MinFilter}
use Rattle.texture_units.specs.declared.sampling.MinFilter.TheVariants.{Nearest, Linear, Mipmap}
use Rattle.texture_units.specs.declared.sampling.Sampling.{Sampling}

-- how a texture is read that no parameter was set of: NEAREST_MIPMAP_LINEAR, LINEAR, REPEAT and REPEAT (section 3.7.10)
abbrev pub new_sampling : Sampling
new_sampling = record { min = Mipmap; linear = true; clamp_s = false; clamp_t = false }

-- the values that a parameter takes, by its name: of TEXTURE_MAG_FILTER NEAREST and LINEAR, of TEXTURE_MIN_FILTER these and
-- the four that read mipmaps, of TEXTURE_WRAP_S and TEXTURE_WRAP_T REPEAT and CLAMP_TO_EDGE; of another name none (section 3.7.4)
unfoldable pub values_taken : ℕ → List ℤ
values_taken pname =
    if pname == 0x2800 then pos 0x2600 ∷ pos 0x2601 ∷ [] else (
    if pname == 0x2801 then pos 0x2600 ∷ pos 0x2601 ∷ pos 0x2700 ∷ pos 0x2701 ∷ pos 0x2702 ∷ pos 0x2703 ∷ [] else (
    if pname == 0x2802 then pos 0x2901 ∷ pos 0x812F ∷ [] else (
    if pname == 0x2803 then pos 0x2901 ∷ pos 0x812F ∷ [] else [])))

-- a parameter has this name, and takes this value (section 3.7.4)
abbrev pub IsParameter : ℕ → ℤ → Type 0
IsParameter pname value = list_any (λ known. int_eq known value) (values_taken pname) ≡ true

-- the filter for what is made smaller that a value stands for: NEAREST, LINEAR, or one that reads mipmaps (section 3.7.7)
abbrev pub min_filter_of : ℤ → MinFilter
min_filter_of value = if int_eq value (pos 0x2600) then Nearest else (if int_eq value (pos 0x2601) then Linear else Mipmap)

-- how a texture is read after a parameter was set: TEXTURE_MAG_FILTER, TEXTURE_MIN_FILTER, TEXTURE_WRAP_S and TEXTURE_WRAP_T,
-- each alone (section 3.7.4)
unfoldable pub with_parameter : Sampling → ℕ → ℤ → Sampling
with_parameter sampling pname value =
    if pname == 0x2800 then record sampling { linear = int_eq value (pos 0x2601) } else (
    if pname == 0x2801 then record sampling { min = min_filter_of value } else (
    if pname == 0x2802 then record sampling { clamp_s = int_eq value (pos 0x812F) } else (
    if pname == 0x2803 then record sampling { clamp_t = int_eq value (pos 0x812F) } else sampling)))
