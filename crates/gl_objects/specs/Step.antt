-- What an event makes of the objects that contexts share, and what it replies.
use Rattle.std.specs.Prelude.{ℕ, ◌+◌, Bool, false, if◌then◌else◌, nat_lt, List, [], ◌∷◌, length, is_some, slice_index, Option, Some, None}
use Rattle.gl_words.specs.declared.error.GlError.{GlError}
use Rattle.gl_words.specs.declared.error.GlError.TheVariants.{OutOfMemory}
use Rattle.texture_units.specs.Texture.{rectangle_of}
use Rattle.gl_objects.specs.declared.kind.Kind.TheVariants as kinds
use Rattle.gl_objects.specs.declared.event.Event.{Event}
use Rattle.gl_objects.specs.declared.event.Event.TheVariants as ev
use Rattle.gl_objects.specs.declared.reply.EventReply.{EventReply}
use Rattle.gl_objects.specs.declared.named.Named.{Named}
use Rattle.gl_objects.specs.declared.named.Named.TheVariants.{Object}
use Rattle.gl_objects.specs.View.{ObjectsView}
use Rattle.gl_objects.specs.Table.{object_in, put, bound, least_free, given, without}
use Rattle.gl_objects.specs.Store.{store_in, part_written, part_fault}
use Rattle.gl_objects.specs.Image.{new_texture, with_image, with_image_part, with_parameter_set}
use Rattle.gl_objects.specs.Textures.{is_default, texture_or_new, with_texture, bytes_fault, image_fault, image_part_fault, parameter_fault}

-- before the first event no name is in use, and nothing was put into the default textures
abbrev pub no_objects : ObjectsView
no_objects = record { buffers = []; textures = []; defaults = new_texture ∷ new_texture ∷ new_texture ∷ new_texture ∷ [] }

-- the byte of a buffer's store at a place: 0 past its end, and where the name is that of no buffer; own
abbrev pub byte_in : ObjectsView → ℕ → ℕ → ℕ
byte_in objects name at = slice_index (store_in objects.buffers name) at

-- why no names can be given: they and those in use, the default textures aside, would be more than 65536; own
abbrev pub names_fault : {T : Type 0} → List (ℕ × Named T) → ℕ → Option GlError
names_fault table n = if nat_lt 65536 (length table + n) then Some OutOfMemory else None

-- why an event changes nothing
abbrev pub fault_of : ObjectsView → Event → Option GlError
fault_of objects (ev.BufferBytes name bytes) = bytes_fault objects name (length bytes)
fault_of objects (ev.BufferPart name offset bytes) = part_fault objects.buffers name offset (length bytes)
fault_of objects (ev.Image name format width height bytes) = image_fault objects name (length bytes)
fault_of objects (ev.ImagePart name format x y width height bytes) = image_part_fault objects name x y (rectangle_of format width height bytes)
fault_of objects (ev.Parameter name pname value) = parameter_fault objects name
fault_of objects (ev.Gen kinds.Buffer n) = names_fault objects.buffers n
fault_of objects (ev.Gen kinds.Texture n) = names_fault objects.textures n
fault_of objects _ = None

-- the objects after an event without a fault (section 2.9 for buffers, 3.7.1, 3.7.2, 3.7.4 and 3.7.11 for textures)
abbrev pub changed : ObjectsView → Event → ObjectsView
changed objects (ev.Bind kinds.Buffer name) = record objects { buffers = bound [] name objects.buffers }
changed objects (ev.Bind kinds.Texture name) =
    if is_default name then objects else record objects { textures = bound new_texture name objects.textures }
changed objects (ev.BufferBytes name bytes) = record objects { buffers = put name (Object bytes) objects.buffers }
changed objects (ev.BufferPart name offset bytes) =
    record objects { buffers = put name (Object (part_written (store_in objects.buffers name) offset bytes)) objects.buffers }
changed objects (ev.Image name format width height bytes) =
    with_texture name (with_image (rectangle_of format width height bytes) (texture_or_new objects name)) objects
changed objects (ev.ImagePart name format x y width height bytes) =
    with_texture name (with_image_part x y (rectangle_of format width height bytes) (texture_or_new objects name)) objects
changed objects (ev.Parameter name pname value) =
    with_texture name (with_parameter_set pname value (texture_or_new objects name)) objects
changed objects (ev.Gen kinds.Buffer n) = record objects { buffers = given (least_free objects.buffers n) objects.buffers }
changed objects (ev.Gen kinds.Texture n) = record objects { textures = given (least_free objects.textures n) objects.textures }
changed objects (ev.Delete kinds.Buffer names) = record objects { buffers = without names objects.buffers }
changed objects (ev.Delete kinds.Texture names) = record objects { textures = without names objects.textures }
changed objects _ = objects

-- one value where there is no fault, and else the other; own
abbrev pub unless_fault : {A : Type 0} → Option GlError → A → A → A
unless_fault None value other = value
unless_fault (Some fault) value other = other

-- the objects after an event: one with a fault changes nothing
abbrev pub step : ObjectsView → Event → ObjectsView
step objects event = unless_fault (fault_of objects event) (changed objects event) objects

-- the names that an event gives (section 2.9)
abbrev pub names_of : ObjectsView → Event → List ℕ
names_of objects (ev.Gen kinds.Buffer n) = unless_fault (names_fault objects.buffers n) (least_free objects.buffers n) []
names_of objects (ev.Gen kinds.Texture n) = unless_fault (names_fault objects.textures n) (least_free objects.textures n) []
names_of objects _ = []

-- whether a name is that of an object (section 6.1)
abbrev pub truth_of : ObjectsView → Event → Bool
truth_of objects (ev.Is kinds.Buffer name) = is_some (object_in objects.buffers name)
truth_of objects (ev.Is kinds.Texture name) = is_some (object_in objects.textures name)
truth_of objects _ = false

-- what an event replies
abbrev pub reply_of : ObjectsView → Event → EventReply
reply_of objects event = record { fault = fault_of objects event; names = names_of objects event; truth = truth_of objects event }
