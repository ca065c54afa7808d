-- The events that calls make, those that only ask, and those that may want memory.
use Rattle.std.specs.Prelude.{◌<◌, ◌≤◌, ◌^◌, Bool, true, false}
use Rattle.texture_units.specs.Texture.{rectangle_of, HasItsBytes, IsTexture}
use Rattle.gl_objects.specs.declared.kind.Kind.TheVariants as kinds
use Rattle.gl_objects.specs.declared.event.Event.{Event}
use Rattle.gl_objects.specs.declared.event.Event.TheVariants as ev
use Rattle.gl_objects.specs.Sampling.{IsParameter}

-- an event that a call makes: the name that is bound isn't 0, and a buffer's is one that a call can give; an image has sides
-- that a texture may have, a part of one sides up to 256, and each the bytes of its texels; a parameter takes the value; own
abbrev pub IsEvent : Event → Type 0
IsEvent (ev.Bind kinds.Buffer name) = (0 < name) × (name < 2 ^ 32)
IsEvent (ev.Bind kinds.Texture name) = 0 < name
IsEvent (ev.Image name format width height bytes) = IsTexture (rectangle_of format width height bytes)
IsEvent (ev.ImagePart name format x y width height bytes) =
    ((width ≤ 256) × (height ≤ 256)) × HasItsBytes (rectangle_of format width height bytes)
IsEvent (ev.Parameter name pname value) = IsParameter pname value
IsEvent _ = Unit {0}

-- an event that changes nothing, whatever the objects are; own
abbrev pub is_asking : Event → Bool
is_asking (ev.Is kind name) = true
is_asking (ev.Use buffers textures) = true
is_asking _ = false

-- an event that may want memory: one that may make an object or a name, or that copies bytes into a new place; own
abbrev pub wants_memory : Event → Bool
wants_memory (ev.Bind kind name) = true
wants_memory (ev.BufferBytes name bytes) = true
wants_memory (ev.Image name format width height bytes) = true
wants_memory (ev.Gen kind n) = true
wants_memory _ = false
