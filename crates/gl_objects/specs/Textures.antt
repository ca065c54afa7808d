-- The textures that contexts share by their names, the bytes that all objects hold, and why those can't become more.
use Rattle.std.specs.Prelude.{ℕ, ◌+◌, ◌-◌, Bool, if◌then◌else◌, nat_le, nat_lt, ◌&&◌, length, get_or, set, is_some, Option, Some, None}
use Rattle.std.specs.Option.{unwrap_or}
use Rattle.std.specs.List.{sum_by}
use Rattle.gl_words.specs.declared.error.GlError.{GlError}
use Rattle.gl_words.specs.declared.error.GlError.TheVariants.{InvalidOperation, OutOfMemory}
use Rattle.texture_units.specs.Texture.{TextureView}
use Rattle.gl_objects.specs.declared.named.Named.TheVariants.{Object}
use Rattle.gl_objects.specs.declared.texture.TextureObject.{TextureObject}
use Rattle.gl_objects.specs.View.{ObjectsView}
use Rattle.gl_objects.specs.Table.{object_in, put, size_at, total}
use Rattle.gl_objects.specs.Image.{new_texture, image_size, image_of, part_of_image_fault}

-- the names of the default textures, one a context: they exist always; own
abbrev pub is_default : ℕ → Bool
is_default name = nat_le 4294967296 name && nat_lt name 4294967300

-- the place of a default texture among the four, by its name; own
abbrev pub default_at : ℕ → ℕ
default_at name = name - 4294967296

-- the texture of a name: a default one, or the object of the name, and none where there is none (section 3.7.11)
abbrev pub texture_in : ObjectsView → ℕ → Option TextureObject
texture_in objects name =
    if is_default name then Some (get_or objects.defaults (default_at name) new_texture) else object_in objects.textures name

-- the texture of a name, and one without an image where there is none; own
abbrev pub texture_or_new : ObjectsView → ℕ → TextureObject
texture_or_new objects name = unwrap_or (texture_in objects name) new_texture

-- the objects in which a name is that of this texture; own
abbrev pub with_texture : ℕ → TextureObject → ObjectsView → ObjectsView
with_texture name texture objects =
    if is_default name then record objects { defaults = set objects.defaults (default_at name) texture }
    else record objects { textures = put name (Object texture) objects.textures }

-- the bytes that all objects hold: those of all buffers, and those of all images, the default textures' too; own
abbrev pub stored : ObjectsView → ℕ
stored objects = total length objects.buffers + total image_size objects.textures + sum_by image_size objects.defaults

-- why an object that has `old` bytes can't have so many: all bytes, with the new ones in place of the old, would be more than
-- 67108864; own
abbrev pub room_fault : ObjectsView → ℕ → ℕ → Option GlError
room_fault objects old count = if nat_lt 67108864 (stored objects - old + count) then Some OutOfMemory else None

-- why a store can't become so many bytes: the name is that of no buffer (section 2.9), or all bytes would be too many
abbrev pub bytes_fault : ObjectsView → ℕ → ℕ → Option GlError
bytes_fault objects name count =
    if is_some (object_in objects.buffers name) then room_fault objects (size_at length objects.buffers name) count else Some InvalidOperation

-- why an image can't become so many bytes: the name is that of no texture, or all bytes would be too many; own
abbrev pub image_fault : ObjectsView → ℕ → ℕ → Option GlError
image_fault objects name count =
    if is_some (texture_in objects name) then room_fault objects (image_size (texture_or_new objects name)) count else Some InvalidOperation

-- why a rectangle of texels can't replace those of a texture: the name is that of no texture, or the image doesn't take it
-- (section 3.7.2)
abbrev pub image_part_fault : ObjectsView → ℕ → ℕ → ℕ → TextureView → Option GlError
image_part_fault objects name x y part = part_of_image_fault (image_of (texture_in objects name)) x y part

-- why a parameter can't be set: the name is that of no texture; own
abbrev pub parameter_fault : ObjectsView → ℕ → Option GlError
parameter_fault objects name = if is_some (texture_in objects name) then None else Some InvalidOperation
