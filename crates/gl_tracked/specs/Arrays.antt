-- The arrays of tracked state by their enumerants; section 2.8. No element is read here.
use Rattle.std.specs.Prelude.{ℕ, ℤ, ◌==◌, Bool, true, false, slice_index_or, slice_set, if◌then◌else◌}
use Rattle.gl_words.specs.declared.call.Call.{Call}
use Rattle.gl_words.specs.declared.call.Call.TheVariants.{ColorPointer, NormalPointer, TexCoordPointer, VertexPointer}
use Rattle.gl_tracked.specs.declared.tracked.ArrayState.{ArrayState}
use Rattle.gl_tracked.specs.declared.tracked.Tracked.{Tracked}
use Rattle.gl_tracked.specs.Tracked.{first_array}

-- the unit whose array of texture coordinates calls set, as its place: 0 for TEXTURE0, else 1; section 2.8
unfoldable pub client_unit : Tracked → ℕ
client_unit tracked = if tracked.client_active == 0x84C0 then 0 else 1

-- the array of texture coordinates of the client active unit; section 2.8
unfoldable pub current_coordinates : Tracked → ArrayState
current_coordinates tracked = slice_index_or tracked.texture (client_unit tracked) first_array

-- the array of an enumerant: VERTEX_ARRAY, NORMAL_ARRAY, COLOR_ARRAY, or TEXTURE_COORD_ARRAY of the client active unit; section 2.8
unfoldable pub array_of : Tracked → ℕ → ArrayState
array_of tracked array =
    if array == 0x8074 then tracked.vertex else (
    if array == 0x8075 then tracked.normal else (
    if array == 0x8076 then tracked.colour else current_coordinates tracked))

-- tracked state with another array of an enumerant; section 2.8
unfoldable pub with_array : Tracked → ℕ → ArrayState → Tracked
with_array tracked array new =
    if array == 0x8074 then record tracked { vertex = new } else (
    if array == 0x8075 then record tracked { normal = new } else (
    if array == 0x8076 then record tracked { colour = new } else record tracked { texture = slice_set tracked.texture (client_unit tracked) new }))

-- tracked state with an array enabled or disabled; section 2.8
unfoldable pub with_enabled : Tracked → ℕ → Bool → Tracked
with_enabled tracked array is_on = with_array tracked array (record (array_of tracked array) { enabled = is_on })

-- tracked state with an array of this size, type, stride and pointer, in the buffer bound to ARRAY_BUFFER; sections 2.8 and 2.9
unfoldable pub with_pointer : Tracked → ℕ → ℤ → ℕ → ℤ → ℕ → Tracked
with_pointer tracked array size kind stride pointer =
    with_array tracked array (record (array_of tracked array) { size = size; kind = kind; stride = stride; pointer = pointer; buffer = tracked.array_buffer })

-- a call says where an array lies; own
abbrev pub gives_pointer : Call → Bool
gives_pointer (ColorPointer size kind stride pointer) = true
gives_pointer (NormalPointer kind stride pointer) = true
gives_pointer (TexCoordPointer size kind stride pointer) = true
gives_pointer (VertexPointer size kind stride pointer) = true
gives_pointer _ = false
