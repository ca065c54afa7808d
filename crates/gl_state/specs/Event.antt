-- Which event a call makes of the objects that contexts share, and what is given back where it makes none; sections 2.8, 2.9, 3.7.1, 3.7.2, 3.7.4, 3.7.11 and 6.1. What an event does stands in gl_objects.
use Rattle.std.specs.Prelude.{ℕ, ◌+◌, ◌*◌, ◌==◌, ◌<◌, ◌≤◌, ℤ, pos, int_lt, Bool, true, false, ◌&&◌, if◌then◌else◌, List, [], ◌∷◌, ◌++◌, slice_index_or, replicate, Option, Some, None}
use Rattle.std.specs.List.{flat_map}
use Rattle.gl_words.specs.declared.call.Call.{Call}
use Rattle.gl_words.specs.declared.call.Call.TheVariants.{BindBuffer, BindTexture, BufferData, BufferSubData, DeleteBuffers, DeleteTextures, DrawArrays, DrawElements, GenBuffers, GenTextures, IsBuffer, IsTexture, TexImage2D, TexParameteri, TexSubImage2D}
use Rattle.gl_words.specs.declared.error.GlError.{GlError}
use Rattle.gl_memory.specs.Piece.{bytes_from}
use Rattle.gl_memory.specs.Segment.{Segment}
use Rattle.gl_objects.specs.declared.event.Event.{Event}
use Rattle.gl_objects.specs.declared.event.Event.TheVariants as ev
use Rattle.gl_objects.specs.declared.kind.Kind.TheVariants as kinds
use Rattle.gl_objects.specs.declared.reply.EventReply.{EventReply}
use Rattle.gl_objects.specs.Event.{IsEvent}
use Rattle.texture_units.specs.Format.{size_of}
use Rattle.texture_units.specs.Texture.{IsSide}
use Rattle.gl_tracked.specs.declared.tracked.ArrayState.{ArrayState}
use Rattle.gl_tracked.specs.declared.tracked.Tracked.{Tracked}
use Rattle.gl_tracked.specs.Count.{count_of}
use Rattle.gl_tracked.specs.Fault.{bound_buffer}
use Rattle.gl_tracked.specs.Images.{pitch_of, side_of, texel_size}
use Rattle.gl_tracked.specs.Names.{names_at}
use Rattle.gl_state.specs.declared.ask.Ask.{Ask}
use Rattle.gl_state.specs.declared.ask.Ask.TheVariants as asks
use Rattle.gl_state.specs.Gets.{active_unit}
use Rattle.gl_state.specs.Images.{format_of, image_uploaded, rows_from}
use Rattle.gl_state.specs.Private.{PrivateView}

-- what is given back where there is no event; own
abbrev pub no_reply : EventReply
no_reply = record { fault = None; names = []; truth = false }

-- an event of this name, unless the name is 0, which is that of no object and of a default one; sections 2.9 and 3.7.11
abbrev pub unless_zero : ℕ → Ask → Option Ask
unless_zero name ask = if name == 0 then None else Some ask

-- the name of the texture of a binding in a context: 0 stands for the context's default texture; section 3.7.11, that one's name own
unfoldable pub texture_named : ℕ → ℕ → ℕ
texture_named context binding = if binding == 0 then 4294967296 + context else binding

-- the name of the texture that is bound in the unit at place 0 or 1; section 3.7.11
unfoldable pub texture_bound : PrivateView → ℕ → ℕ
texture_bound p unit = texture_named p.context (slice_index_or p.settings.bindings unit 0)

-- from one row of an image to the next in memory, by the number of its format and its width in texels: at UNPACK_ALIGNMENT; sections 3.6.1 and 3.6.2
unfoldable pub pitch_in : Tracked → ℕ → ℤ → ℕ
pitch_in tracked format width = pitch_of (count_of tracked.unpack_alignment) (side_of width * texel_size format)

-- a call gives the bound texture an image, a part of one, or a parameter; own
abbrev pub changes_texture : Call → Bool
changes_texture (TexImage2D target level internalformat width height border format kind pixels) = true
changes_texture (TexParameteri target pname param) = true
changes_texture (TexSubImage2D target level xoffset yoffset width height format kind pixels) = true
changes_texture _ = false

-- the event that a call without an error makes besides drawing, with its bytes and names still in memory; sections 2.9, 3.7.1, 3.7.2, 3.7.4, 3.7.11 and 6.1, that there is at most one own
unfoldable pub ask_of : PrivateView → Call → Option Ask
ask_of p (BindBuffer target buffer) = unless_zero buffer (asks.Bind kinds.Buffer buffer)
ask_of p (BindTexture target texture) = unless_zero texture (asks.Bind kinds.Texture texture)
ask_of p (BufferData target size source usage) = Some (asks.Bytes (bound_buffer p.tracked target) (count_of size) source)
ask_of p (BufferSubData target offset size source) = Some (asks.Part (bound_buffer p.tracked target) (count_of offset) (count_of size) source)
ask_of p (DeleteBuffers n names) = Some (asks.Delete kinds.Buffer (count_of n) names)
ask_of p (DeleteTextures n names) = Some (asks.Delete kinds.Texture (count_of n) names)
ask_of p (GenBuffers n names) = Some (asks.Gen kinds.Buffer (count_of n))
ask_of p (GenTextures n names) = Some (asks.Gen kinds.Texture (count_of n))
ask_of p (IsBuffer buffer) = unless_zero buffer (asks.Is kinds.Buffer buffer)
ask_of p (IsTexture texture) = unless_zero texture (asks.Is kinds.Texture texture)
ask_of p (TexImage2D target level internalformat width height border format kind pixels) =
    Some (asks.Image (texture_bound p (active_unit p)) (format_of format) (side_of width) (side_of height) (pitch_in p.tracked format width) pixels)
ask_of p (TexParameteri target pname param) = Some (asks.Parameter (texture_bound p (active_unit p)) pname param)
ask_of p (TexSubImage2D target level xoffset yoffset width height format kind pixels) =
    Some (asks.ImagePart (texture_bound p (active_unit p)) (format_of format) (count_of xoffset) (count_of yoffset) (side_of width) (side_of height) (pitch_in p.tracked format width) pixels)
ask_of p _ = None

-- the name that is bound isn't 0, an image has sides that there are, a part of one has at most 256 texels in a side, and a parameter is one that its event takes; own
abbrev pub IsAsk : Ask → Type 0
IsAsk (asks.Bind kind name) = 0 < name
IsAsk (asks.Image name format width height pitch source) = IsSide width × IsSide height
IsAsk (asks.ImagePart name format x y width height pitch source) = (width ≤ 256) × (height ≤ 256)
IsAsk (asks.Parameter name pname value) = IsEvent (ev.Parameter name pname value)
IsAsk _ = Unit {0}

-- an event has bytes or names of its own, so that memory is asked for it; own
abbrev pub has_content : Ask → Bool
has_content (asks.Bytes name size source) = true
has_content (asks.Part name offset size source) = true
has_content (asks.Delete kind n names) = true
has_content (asks.Image name format width height pitch source) = true
has_content (asks.ImagePart name format x y width height pitch source) = true
has_content _ = false

-- an event is an image or a part of one; own
abbrev pub is_image : Ask → Bool
is_image (asks.Image name format width height pitch source) = true
is_image (asks.ImagePart name format x y width height pitch source) = true
is_image _ = false

-- a call's event has bytes or names of its own; own
abbrev pub gives_content : Call → Bool
gives_content (BufferData target size source usage) = true
gives_content (BufferSubData target offset size source) = true
gives_content (DeleteBuffers n names) = true
gives_content (DeleteTextures n names) = true
gives_content (TexImage2D target level internalformat width height border format kind pixels) = true
gives_content (TexSubImage2D target level xoffset yoffset width height format kind pixels) = true
gives_content _ = false

-- the bytes of an upload: so many from a place of memory on, and zeros where the place is 0; section 2.9, the last own
unfoldable pub uploaded : List Segment → ℕ → ℕ → List ℕ
uploaded memory source size = if source == 0 then replicate size 0 else bytes_from memory source size

-- an event, with its bytes and names as they lie in memory, and images without padding; sections 2.9, 3.6.2, 3.7.1, 3.7.2 and 3.7.11
unfoldable pub event_asked : Ask → List Segment → Event
event_asked (asks.Bind kind name) memory = ev.Bind kind name
event_asked (asks.Bytes name size source) memory = ev.BufferBytes name (uploaded memory source size)
event_asked (asks.Part name offset size source) memory = ev.BufferPart name offset (bytes_from memory source size)
event_asked (asks.Gen kind n) memory = ev.Gen kind n
event_asked (asks.Delete kind n names) memory = ev.Delete kind (names_at memory names n)
event_asked (asks.Is kind name) memory = ev.Is kind name
event_asked (asks.Image name format width height pitch source) memory = ev.Image name format width height (image_uploaded memory source pitch (width * size_of format) height)
event_asked (asks.ImagePart name format x y width height pitch source) memory = ev.ImagePart name format x y width height (rows_from memory source pitch (width * size_of format) height)
event_asked (asks.Parameter name pname value) memory = ev.Parameter name pname value

-- a name in a list of names that are used, unless it is 0; own
abbrev pub used_unless_zero : ℕ → List ℕ
used_unless_zero name = if name == 0 then [] else name ∷ []

-- the buffer that a draw uses of an array: that of one that is enabled; section 2.9
unfoldable pub buffer_used : ArrayState → List ℕ
buffer_used array = if array.enabled then used_unless_zero array.buffer else []

-- the buffers that a draw uses, and for a draw by indices the one that they lie in: of vertices, normals, colours, the texture coordinates of unit 0 and of unit 1, and then this one; section 2.9, the order own
unfoldable pub used_buffers : Tracked → ℕ → List ℕ
used_buffers tracked elements =
    flat_map buffer_used (tracked.vertex ∷ tracked.normal ∷ tracked.colour ∷ tracked.texture) ++ used_unless_zero elements

-- the texture that a draw uses of the unit at place 0 or 1: the bound one, where TEXTURE_2D is enabled; section 3.7.12
unfoldable pub texture_used : PrivateView → ℕ → List ℕ
texture_used p unit =
    if slice_index_or p.settings.capabilities.texture_2d unit false then texture_bound p unit ∷ [] else []

-- the textures that a draw uses: of unit 0, and of unit 1; section 3.7.12
unfoldable pub used_textures : PrivateView → List ℕ
used_textures p = texture_used p 0 ++ texture_used p 1

-- the event of a draw that uses these buffers and these textures, if it uses any; own
abbrev pub use_unless_none : List ℕ → List ℕ → Option Event
use_unless_none [] [] = None
use_unless_none buffers textures = Some (ev.Use buffers textures)

-- the event of a draw of so many elements without an error: none where it draws none, or the array of vertices is disabled; own
unfoldable pub use_by : PrivateView → ℤ → ℕ → Option Event
use_by p count elements = if int_lt (pos 0) count && p.tracked.vertex.enabled then use_unless_none (used_buffers p.tracked elements) (used_textures p) else None

-- the event of a draw without an error, and none of every other call; own
unfoldable pub use_of : PrivateView → Call → Option Event
use_of p (DrawArrays mode first count) = use_by p count 0
use_of p (DrawElements mode count kind indices) = use_by p count p.tracked.element_buffer
use_of p _ = None

-- an event that was asked for, or else that of a draw; own
abbrev pub asked_or : Option Ask → Option Event → List Segment → Option Event
asked_or (Some ask) used memory = Some (event_asked ask memory)
asked_or None used memory = used

-- the event that a call with this error, or none, makes on a memory, if it makes one: with an error it makes none; sections 2.5, 2.8, 2.9, 3.7.11 and 6.1
abbrev pub event_by : Option GlError → PrivateView → Call → List Segment → Option Event
event_by (Some error) p call memory = None
event_by None p call memory = asked_or (ask_of p call) (use_of p call) memory
