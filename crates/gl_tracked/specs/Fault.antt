-- Which error a call makes, as tracked state and the call show it; sections 2.5 and those of the calls.
use Rattle.std.specs.Prelude.{ℕ, ◌==◌, nat_lt, ℤ, pos, int_le, int_lt, Bool, true, false, not, ◌&&◌, ◌||◌, bit_and, if◌then◌else◌, List, [], ◌∷◌, map, Option, Some, None, is_some}
use Rattle.std.specs.List.{list_any}
use Rattle.std.specs.Ordering.{int_eq}
use Rattle.gl_words.specs.declared.call.Call.{Call}
use Rattle.gl_words.specs.declared.call.Call.TheVariants.{ActiveTexture, AlphaFuncx, BindBuffer, BindTexture, BlendFunc, BufferData, BufferSubData, Clear, ClearColorx, ClearDepthx, ClientActiveTexture, Color4x, ColorMask, ColorPointer, CullFace, DeleteBuffers, DeleteTextures, DepthFunc, DepthMask, DepthRangex, Disable, DisableClientState, DrawArrays, DrawElements, Enable, EnableClientState, Finish, Flush, FrontFace, Frustumx, GenBuffers, GenTextures, GetError, GetFixedv, GetIntegerv, GetPointerv, IsBuffer, IsEnabled, IsTexture, LoadIdentity, LoadMatrixx, MatrixMode, MultMatrixx, MultiTexCoord4x, Normal3x, NormalPointer, Orthox, PixelStorei, PopMatrix, PushMatrix, ReadPixels, Rotatex, Scalex, Scissor, ShadeModel, TexCoordPointer, TexEnvi, TexEnvxv, TexImage2D, TexParameteri, TexSubImage2D, Translatex, VertexPointer, Viewport}
use Rattle.gl_words.specs.declared.error.GlError.{GlError}
use Rattle.gl_words.specs.declared.error.GlError.TheVariants.{InvalidEnum, InvalidOperation, InvalidValue, OutOfMemory, StackOverflow, StackUnderflow}
use Rattle.gl_tracked.specs.declared.tracked.Tracked.{Tracked}
use Rattle.gl_tracked.specs.Enumerants.{buffer_targets, comparisons, dest_factors, environment_modes, faces, index_types, modes, shadings, source_factors, texture_formats, texture_parameters, usages, values_of_parameter, windings}
use Rattle.gl_tracked.specs.Gets.{integer_asked, pointer_asked, other_integers, fixed_names}
use Rattle.gl_tracked.specs.Images.{image_sides}
use Rattle.gl_tracked.specs.Stack.{is_matrix_mode, current_depth, current_most}
use Rattle.gl_tracked.specs.Tracked.{alignments, alignment_names, array_sizes, arrays, capabilities, colour_types, units, vertex_types}

-- a mask has no bits but those of depth, stencil and colour; section 4.2.3
unfoldable pub is_known_mask : ℕ → Bool
is_known_mask mask = bit_and mask 0x4500 == mask

-- two numbers are not the same; own
unfoldable pub differ : ℤ → ℤ → Bool
differ a b = int_lt a b || int_lt b a

-- no two sides of a box that face each other are in one plane; section 2.10.2
unfoldable pub is_box : ℤ → ℤ → ℤ → ℤ → ℤ → ℤ → Bool
is_box left right bottom top near far = (differ left right && differ bottom top) && differ near far

-- both planes of a frustum are before the eye, and its sides are those of a box; section 2.10.2
unfoldable pub is_frustum : ℤ → ℤ → ℤ → ℤ → ℤ → ℤ → Bool
is_frustum left right bottom top near far = (int_lt (pos 0) near && int_lt (pos 0) far) && is_box left right bottom top near far

-- neither of two numbers is below zero, as the sides of a viewport or a scissor, or a place in a buffer and a count of bytes; sections 2.9, 2.10.1 and 4.1.2
unfoldable pub is_extent : ℤ → ℤ → Bool
is_extent width height = int_le (pos 0) width && int_le (pos 0) height

-- a number is one of a list; own
unfoldable pub is_among : List ℕ → ℕ → Bool
is_among numbers number = list_any (λ known. known == number) numbers

-- a signed number is one of a list; own
unfoldable pub size_is_among : List ℤ → ℤ → Bool
size_is_among numbers number = list_any (λ known. int_eq known number) numbers

-- a stride isn't below zero; section 2.8
unfoldable pub is_stride : ℤ → Bool
is_stride stride = int_le (pos 0) stride

-- the error of the first test that isn't passed, or none; section 2.5
unfoldable pub first_failed : List (Bool × GlError) → Option GlError
first_failed [] = None
first_failed ((passes, error) ∷ tests) = if passes then first_failed tests else Some error

-- the first error of a pointer call, by whether its size and its type are known, and by its stride; section 2.8
unfoldable pub pointer_fault : Bool → Bool → ℤ → Option GlError
pointer_fault knows_size knows_type stride =
    first_failed ((knows_size, InvalidValue) ∷ (knows_type, InvalidEnum) ∷ (is_stride stride, InvalidValue) ∷ [])

-- sides of a rectangle of pixels that can be read: 0 to 512; section 4.3.1, the most own
unfoldable pub is_readable : ℤ → ℤ → Bool
is_readable width height = is_extent width height && (int_le width (pos 512) && int_le height (pos 512))

-- elements that can be drawn: a first one that isn't below zero, and 0 to 65536 of them; section 2.8, the most own
unfoldable pub is_drawable : ℤ → ℤ → Bool
is_drawable first count = int_le (pos 0) first && (int_le (pos 0) count && int_le count (pos 65536))

-- elements that indices may name: 0 to 65536 of them; section 2.8, the most own
unfoldable pub is_element_count : ℤ → Bool
is_element_count count = int_le (pos 0) count && int_le count (pos 65536)

-- names that may be given or deleted by one call: 0 to 256 of them; sections 2.9 and 3.7.11, the most own
unfoldable pub is_name_count : ℤ → Bool
is_name_count count = int_le (pos 0) count && int_le count (pos 256)

-- the bytes that a buffer may have: up to 67108864; own
unfoldable pub is_buffer_size : ℤ → Bool
is_buffer_size size = int_le size (pos 67108864)

-- the buffer that is bound to a target, ARRAY_BUFFER or else ELEMENT_ARRAY_BUFFER; section 2.9
unfoldable pub bound_buffer : Tracked → ℕ → ℕ
bound_buffer tracked target = if target == 0x8892 then tracked.array_buffer else tracked.element_buffer

-- a buffer is bound to a target; section 2.9
unfoldable pub is_bound : Tracked → ℕ → Bool
is_bound tracked target = not (bound_buffer tracked target == 0)

-- the first error of BufferData: its target, its usage, a size below zero, no buffer that is bound, and a size that no buffer may have; section 2.9, the last own
unfoldable pub data_fault : Tracked → ℕ → ℤ → ℕ → Option GlError
data_fault tracked target size usage =
    first_failed (
    (is_among buffer_targets target, InvalidEnum) ∷
    (is_among usages usage, InvalidEnum) ∷
    (int_le (pos 0) size, InvalidValue) ∷
    (is_bound tracked target, InvalidOperation) ∷
    (is_buffer_size size, OutOfMemory) ∷ [])

-- the first error of BufferSubData: its target, an offset or a size below zero, no buffer that is bound, and a size that no buffer has; section 2.9, the order own
unfoldable pub part_fault : Tracked → ℕ → ℤ → ℤ → Option GlError
part_fault tracked target offset size =
    first_failed (
    (is_among buffer_targets target, InvalidEnum) ∷
    (is_extent offset size, InvalidValue) ∷
    (is_bound tracked target, InvalidOperation) ∷
    (is_buffer_size size, InvalidValue) ∷ [])

-- a signed number is one of the formats of textures; section 3.7.1
unfoldable pub is_internal_format : ℤ → Bool
is_internal_format format = size_is_among (map pos texture_formats) format

-- a side that an image may have, in texels: a power of two up to 256; section 3.7.1, the greatest own
unfoldable pub is_image_side : ℤ → Bool
is_image_side side = size_is_among image_sides side

-- sides of a rectangle of texels that can be replaced: 0 to 256; section 3.7.2, the most own
unfoldable pub is_part_size : ℤ → ℤ → Bool
is_part_size width height = is_extent width height && (int_le width (pos 256) && int_le height (pos 256))

-- the first error of TexEnvi: its target TEXTURE_ENV, its name TEXTURE_ENV_MODE, and the mode; section 3.7.12
unfoldable pub mode_fault : ℕ → ℕ → ℤ → Option GlError
mode_fault target pname param =
    first_failed ((target == 0x2300, InvalidEnum) ∷ (pname == 0x2200, InvalidEnum) ∷ (size_is_among environment_modes param, InvalidEnum) ∷ [])

-- the first error of TexEnvxv: its target TEXTURE_ENV, and its name TEXTURE_ENV_COLOR; section 3.7.12
unfoldable pub colour_fault : ℕ → ℕ → Option GlError
colour_fault target pname = first_failed ((target == 0x2300, InvalidEnum) ∷ (pname == 0x2201, InvalidEnum) ∷ [])

-- the first error of TexImage2D: its target TEXTURE_2D, its format and its type UNSIGNED_BYTE; a level or a border other than 0, an internal format that is none and a side that no image has; and an internal format other than the format; section 3.7.1
unfoldable pub image_fault : ℕ → ℤ → ℤ → ℤ → ℤ → ℤ → ℕ → ℕ → Option GlError
image_fault target level internalformat width height border format kind =
    first_failed (
    (target == 0x0DE1, InvalidEnum) ∷
    (is_among texture_formats format, InvalidEnum) ∷
    (kind == 0x1401, InvalidEnum) ∷
    (int_eq level (pos 0), InvalidValue) ∷
    (is_internal_format internalformat, InvalidValue) ∷
    (is_image_side width, InvalidValue) ∷
    (is_image_side height, InvalidValue) ∷
    (int_eq border (pos 0), InvalidValue) ∷
    (int_eq internalformat (pos format), InvalidOperation) ∷ [])

-- the first error of TexParameteri: its target TEXTURE_2D, its name, and a value that the name doesn't accept; section 3.7.4
unfoldable pub parameter_fault : ℕ → ℕ → ℤ → Option GlError
parameter_fault target pname param =
    first_failed (
    (target == 0x0DE1, InvalidEnum) ∷
    (is_among texture_parameters pname, InvalidEnum) ∷
    (size_is_among (values_of_parameter pname) param, InvalidEnum) ∷ [])

-- the first error of TexSubImage2D: its target TEXTURE_2D, its format and its type UNSIGNED_BYTE; a level other than 0, an offset below zero and sides that can't be replaced; section 3.7.2
unfoldable pub subimage_fault : ℕ → ℤ → ℤ → ℤ → ℤ → ℤ → ℕ → ℕ → Option GlError
subimage_fault target level xoffset yoffset width height format kind =
    first_failed (
    (target == 0x0DE1, InvalidEnum) ∷
    (is_among texture_formats format, InvalidEnum) ∷
    (kind == 0x1401, InvalidEnum) ∷
    (int_eq level (pos 0), InvalidValue) ∷
    (is_extent xoffset yoffset, InvalidValue) ∷
    (is_part_size width height, InvalidValue) ∷ [])

-- the first error test of a call that fails, or none; sections 2.6.1, 2.7, 2.8, 2.9, 2.10.1, 2.10.2, 2.12.1, 2.12.7, 3.5.1, 3.6.1, 3.7.1, 3.7.2, 3.7.4, 3.7.11, 3.7.12, 4.1.2, 4.1.4, 4.1.6, 4.1.7, 4.2.3, 4.3.1 and 6.1, and chapters 2 to 4 for capabilities
unfoldable pub fault_of : Tracked → Call → Option GlError
fault_of tracked (ActiveTexture texture) = if is_among units texture then None else Some InvalidEnum
fault_of tracked (AlphaFuncx func reference) = if is_among comparisons func then None else Some InvalidEnum
fault_of tracked (BindBuffer target buffer) = if is_among buffer_targets target then None else Some InvalidEnum
fault_of tracked (BindTexture target texture) = if target == 0x0DE1 then None else Some InvalidEnum
fault_of tracked (BlendFunc sfactor dfactor) = if is_among source_factors sfactor && is_among dest_factors dfactor then None else Some InvalidEnum
fault_of tracked (BufferData target size source usage) = data_fault tracked target size usage
fault_of tracked (BufferSubData target offset size source) = part_fault tracked target offset size
fault_of tracked (Clear mask) = if is_known_mask mask then None else Some InvalidValue
fault_of tracked (ClearColorx red green blue alpha) = None
fault_of tracked (ClearDepthx depth) = None
fault_of tracked (ClientActiveTexture texture) = if is_among units texture then None else Some InvalidEnum
fault_of tracked (Color4x red green blue alpha) = None
fault_of tracked (ColorMask red green blue alpha) = None
fault_of tracked (ColorPointer size kind stride pointer) = pointer_fault (size_is_among (pos 4 ∷ []) size) (is_among colour_types kind) stride
fault_of tracked (CullFace mode) = if is_among faces mode then None else Some InvalidEnum
fault_of tracked (DeleteBuffers n names) = if is_name_count n then None else Some InvalidValue
fault_of tracked (DeleteTextures n names) = if is_name_count n then None else Some InvalidValue
fault_of tracked (DepthFunc func) = if is_among comparisons func then None else Some InvalidEnum
fault_of tracked (DepthMask flag) = None
fault_of tracked (DepthRangex near far) = None
fault_of tracked (Disable cap) = if is_among capabilities cap then None else Some InvalidEnum
fault_of tracked (DisableClientState array) = if is_among arrays array then None else Some InvalidEnum
fault_of tracked (DrawArrays mode first count) = first_failed ((is_among modes mode, InvalidEnum) ∷ (is_drawable first count, InvalidValue) ∷ [])
fault_of tracked (DrawElements mode count kind indices) =
    first_failed ((is_among modes mode, InvalidEnum) ∷ (is_among index_types kind, InvalidEnum) ∷ (is_element_count count, InvalidValue) ∷ [])
fault_of tracked (Enable cap) = if is_among capabilities cap then None else Some InvalidEnum
fault_of tracked (EnableClientState array) = if is_among arrays array then None else Some InvalidEnum
fault_of tracked Finish = None
fault_of tracked Flush = None
fault_of tracked (FrontFace mode) = if is_among windings mode then None else Some InvalidEnum
fault_of tracked (Frustumx left right bottom top near far) = if is_frustum left right bottom top near far then None else Some InvalidValue
fault_of tracked (GenBuffers n names) = if is_name_count n then None else Some InvalidValue
fault_of tracked (GenTextures n names) = if is_name_count n then None else Some InvalidValue
fault_of tracked GetError = None
fault_of tracked (GetFixedv pname params) = if is_among fixed_names pname then None else Some InvalidEnum
fault_of tracked (GetIntegerv pname params) = if is_some (integer_asked tracked pname) || is_among other_integers pname then None else Some InvalidEnum
fault_of tracked (GetPointerv pname params) = if is_some (pointer_asked tracked pname) then None else Some InvalidEnum
fault_of tracked (IsBuffer buffer) = None
fault_of tracked (IsEnabled cap) = if is_among capabilities cap || is_among arrays cap then None else Some InvalidEnum
fault_of tracked (IsTexture texture) = None
fault_of tracked LoadIdentity = None
fault_of tracked (LoadMatrixx matrix) = None
fault_of tracked (MatrixMode mode) = if is_matrix_mode mode then None else Some InvalidEnum
fault_of tracked (MultMatrixx matrix) = None
fault_of tracked (MultiTexCoord4x target s t r q) = if is_among units target then None else Some InvalidEnum
fault_of tracked (Normal3x nx ny nz) = None
fault_of tracked (NormalPointer kind stride pointer) = pointer_fault true (is_among vertex_types kind) stride
fault_of tracked (Orthox left right bottom top near far) = if is_box left right bottom top near far then None else Some InvalidValue
fault_of tracked (PixelStorei pname param) = first_failed ((is_among alignment_names pname, InvalidEnum) ∷ (size_is_among alignments param, InvalidValue) ∷ [])
fault_of tracked PopMatrix = if nat_lt 1 (current_depth tracked) then None else Some StackUnderflow
fault_of tracked PushMatrix = if nat_lt (current_depth tracked) (current_most tracked) then None else Some StackOverflow
fault_of tracked (ReadPixels x y width height format kind pixels) =
    first_failed ((format == 0x1908, InvalidEnum) ∷ (kind == 0x1401, InvalidEnum) ∷ (is_readable width height, InvalidValue) ∷ [])
fault_of tracked (Rotatex angle x y z) = None
fault_of tracked (Scalex x y z) = None
fault_of tracked (Scissor x y width height) = if is_extent width height then None else Some InvalidValue
fault_of tracked (ShadeModel mode) = if is_among shadings mode then None else Some InvalidEnum
fault_of tracked (TexCoordPointer size kind stride pointer) = pointer_fault (size_is_among array_sizes size) (is_among vertex_types kind) stride
fault_of tracked (TexEnvi target pname param) = mode_fault target pname param
fault_of tracked (TexEnvxv target pname params) = colour_fault target pname
fault_of tracked (TexImage2D target level internalformat width height border format kind pixels) = image_fault target level internalformat width height border format kind
fault_of tracked (TexParameteri target pname param) = parameter_fault target pname param
fault_of tracked (TexSubImage2D target level xoffset yoffset width height format kind pixels) = subimage_fault target level xoffset yoffset width height format kind
fault_of tracked (Translatex x y z) = None
fault_of tracked (VertexPointer size kind stride pointer) = pointer_fault (size_is_among array_sizes size) (is_among vertex_types kind) stride
fault_of tracked (Viewport x y width height) = if is_extent width height then None else Some InvalidValue

-- a call has the sides of a box; own
abbrev pub has_sides : Call → Bool
has_sides (Frustumx left right bottom top near far) = true
has_sides (Orthox left right bottom top near far) = true
has_sides _ = false

-- a call sets the environment, the image or a parameter of textures; own
abbrev pub is_of_textures : Call → Bool
is_of_textures (TexEnvi target pname param) = true
is_of_textures (TexEnvxv target pname params) = true
is_of_textures (TexImage2D target level internalformat width height border format kind pixels) = true
is_of_textures (TexParameteri target pname param) = true
is_of_textures (TexSubImage2D target level xoffset yoffset width height format kind pixels) = true
is_of_textures _ = false
