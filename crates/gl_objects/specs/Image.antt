-- What a texture object holds: an image and how it is read; and why a part of an image can't be replaced. No name stands here.
use Rattle.std.specs.Prelude.{ℕ, ◌+◌, nat_le, ℤ, Bool, true, false, ◌&&◌, if◌then◌else◌, length, Option, Some, None}
use Rattle.std.specs.Option.{option_map}
use Rattle.gl_words.specs.declared.error.GlError.{GlError}
use Rattle.gl_words.specs.declared.error.GlError.TheVariants.{InvalidValue, InvalidOperation}
use Rattle.texture_units.specs.declared.format.Format.{Format}
use Rattle.texture_units.specs.declared.format.Format.TheVariants.{Alpha, Luminance, LuminanceAlpha, Rgb, Rgba}
use Rattle.texture_units.specs.Texture.{TextureView}
use Rattle.texture_units.specs.Part.{with_part}
use Rattle.gl_objects.specs.declared.texture.TextureObject.{TextureObject}
use Rattle.gl_objects.specs.Sampling.{new_sampling, with_parameter}

-- a texture that nothing was put into: it has no image, and is read as at first (section 3.7.10)
abbrev pub new_texture : TextureObject
new_texture = record { image = None; sampling = new_sampling }

-- the bytes of an image, and none where there is none; own
abbrev pub bytes_of : Option TextureView → ℕ
bytes_of None = 0
bytes_of (Some image) = length image.bytes

-- the bytes of a texture's image: of each of its texels those of its format; own
abbrev pub image_size : TextureObject → ℕ
image_size texture = bytes_of texture.image

-- the image of a texture, where there is one; own
abbrev pub image_of : Option TextureObject → Option TextureView
image_of None = None
image_of (Some texture) = texture.image

-- a texture whose image is this one: format, sides and bytes are those of the new image alone, and it is read as before
-- (section 3.7.1)
abbrev pub with_image : TextureView → TextureObject → TextureObject
with_image image texture = record texture { image = Some image }

-- a texture in whose image a rectangle of texels stands in the place of those from column x and row y on (section 3.7.2)
abbrev pub with_image_part : ℕ → ℕ → TextureView → TextureObject → TextureObject
with_image_part x y part texture = record texture { image = option_map (with_part x y part) texture.image }

-- a texture of which a parameter was set: its image stays (section 3.7.4)
abbrev pub with_parameter_set : ℕ → ℤ → TextureObject → TextureObject
with_parameter_set pname value texture = record texture { sampling = with_parameter texture.sampling pname value }

-- whether two formats are the same; own
abbrev pub is_same_format : Format → Format → Bool
is_same_format Alpha Alpha = true
is_same_format Luminance Luminance = true
is_same_format LuminanceAlpha LuminanceAlpha = true
is_same_format Rgb Rgb = true
is_same_format Rgba Rgba = true
is_same_format _ _ = false

-- whether a rectangle of texels lies inside an image, from a column and a row on (section 3.7.2)
abbrev pub lies_inside : ℕ → ℕ → TextureView → TextureView → Bool
lies_inside x y part image = nat_le (x + part.width) image.width && nat_le (y + part.height) image.height

-- why a rectangle of texels can't replace those of an image: there is none, it has another format, or the rectangle doesn't
-- lie inside it (section 3.7.2, the fault of another format own)
abbrev pub part_of_image_fault : Option TextureView → ℕ → ℕ → TextureView → Option GlError
part_of_image_fault None x y part = Some InvalidOperation
part_of_image_fault (Some image) x y part =
    if is_same_format image.format part.format then (if lies_inside x y part image then None else Some InvalidValue) else Some InvalidOperation
