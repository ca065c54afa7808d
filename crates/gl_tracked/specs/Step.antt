-- What a call does to tracked state, what it reads of memory, and which number of tracked state it asks for.
use Rattle.std.specs.Prelude.{ℕ, ◌+◌, ◌-◌, ◌==◌, ℤ, Bool, true, false, if◌then◌else◌, List, [], ◌∷◌, Option, Some, None}
use Rattle.gl_words.specs.declared.call.Call.{Call}
use Rattle.gl_words.specs.declared.call.Call.TheVariants.{ActiveTexture, BindBuffer, BufferData, BufferSubData, ClientActiveTexture, ColorPointer, DeleteBuffers, DeleteTextures, DisableClientState, DrawArrays, DrawElements, EnableClientState, GetIntegerv, GetPointerv, IsEnabled, LoadMatrixx, MatrixMode, MultMatrixx, NormalPointer, PixelStorei, PopMatrix, PushMatrix, TexCoordPointer, TexEnvxv, TexImage2D, TexSubImage2D, VertexPointer}
use Rattle.gl_words.specs.declared.error.GlError.{GlError}
use Rattle.gl_memory.specs.Segment.{Segment}
use Rattle.gl_memory.specs.declared.piece.Piece.{Piece}
use Rattle.gl_tracked.specs.declared.tracked.Tracked.{Tracked}
use Rattle.gl_tracked.specs.Fault.{fault_of}
use Rattle.gl_tracked.specs.Arrays.{with_enabled, with_pointer}
use Rattle.gl_tracked.specs.Gets.{integer_asked, pointer_asked, enabled_asked}
use Rattle.gl_tracked.specs.Count.{count_of}
use Rattle.gl_tracked.specs.Names.{names_at, without_buffers}
use Rattle.gl_tracked.specs.Ranges.{elements_read_all, range_of_bytes, range_of_colour, range_of_image, range_of_matrix, range_of_names, ranges_of_data, ranges_of_draw, ranges_of_elements, ranges_of_image}
use Rattle.gl_tracked.specs.Reads.{Reads, Everything, Ranges}
use Rattle.gl_tracked.specs.Stack.{current_depth, with_depth}

-- tracked state with another alignment of rows: UNPACK_ALIGNMENT, else PACK_ALIGNMENT; sections 3.6.1 and 4.3.1
unfoldable pub with_alignment : Tracked → ℕ → ℤ → Tracked
with_alignment tracked name alignment =
    if name == 0x0CF5 then record tracked { unpack_alignment = alignment } else record tracked { pack_alignment = alignment }

-- tracked state with another buffer bound to a target: ARRAY_BUFFER, else ELEMENT_ARRAY_BUFFER; section 2.9
unfoldable pub with_binding : Tracked → ℕ → ℕ → Tracked
with_binding tracked target buffer =
    if target == 0x8892 then record tracked { array_buffer = buffer } else record tracked { element_buffer = buffer }

-- the tracked state that a call without an error leaves on a memory, from which DeleteBuffers takes names; sections 2.7, 2.8, 2.9, 2.10.2, 3.6.1 and 4.3.1
unfoldable pub set_by : Tracked → Call → List Segment → Tracked
set_by tracked (ActiveTexture texture) memory = record tracked { active = texture }
set_by tracked (BindBuffer target buffer) memory = with_binding tracked target buffer
set_by tracked (ClientActiveTexture texture) memory = record tracked { client_active = texture }
set_by tracked (ColorPointer size kind stride pointer) memory = with_pointer tracked 0x8076 size kind stride pointer
set_by tracked (DeleteBuffers n names) memory = without_buffers (names_at memory names (count_of n)) tracked
set_by tracked (DisableClientState array) memory = with_enabled tracked array false
set_by tracked (EnableClientState array) memory = with_enabled tracked array true
set_by tracked (MatrixMode mode) memory = record tracked { matrix_mode = mode }
set_by tracked (NormalPointer kind stride pointer) memory = with_pointer tracked 0x8075 tracked.normal.size kind stride pointer
set_by tracked (PixelStorei pname param) memory = with_alignment tracked pname param
set_by tracked PopMatrix memory = with_depth tracked (current_depth tracked - 1)
set_by tracked PushMatrix memory = with_depth tracked (current_depth tracked + 1)
set_by tracked (TexCoordPointer size kind stride pointer) memory = with_pointer tracked 0x8078 size kind stride pointer
set_by tracked (VertexPointer size kind stride pointer) memory = with_pointer tracked 0x8074 size kind stride pointer
set_by tracked _ memory = tracked

-- tracked state where there was an error, and where there was none; section 2.5
abbrev pub unless_fault : Option GlError → Tracked → Tracked → Tracked
unless_fault None before after = after
unless_fault (Some error) before after = before

-- the tracked state after a call: a call with an error changes nothing; section 2.5
unfoldable pub tracked_after : Tracked → Call → List Segment → Tracked
tracked_after tracked call memory = unless_fault (fault_of tracked call) tracked (set_by tracked call memory)

-- the ranges of a memory that a call without an error reads, where it doesn't read all: those of bytes and names, of draws and of matrices, of images and of colours; sections 2.8, 2.9, 2.10.2, 3.7.1, 3.7.2, 3.7.11 and 3.7.12
unfoldable pub ranges_of : Tracked → Call → List Segment → List Piece
ranges_of tracked (BufferData target size source usage) memory = ranges_of_data source size
ranges_of tracked (BufferSubData target offset size source) memory = range_of_bytes source size ∷ []
ranges_of tracked (DeleteBuffers n names) memory = range_of_names names n ∷ []
ranges_of tracked (DeleteTextures n names) memory = range_of_names names n ∷ []
ranges_of tracked (DrawArrays mode first count) memory = ranges_of_draw tracked first count
ranges_of tracked (DrawElements mode count kind indices) memory = ranges_of_elements tracked count kind indices memory
ranges_of tracked (LoadMatrixx matrix) memory = range_of_matrix matrix ∷ []
ranges_of tracked (MultMatrixx matrix) memory = range_of_matrix matrix ∷ []
ranges_of tracked (TexEnvxv target pname params) memory = range_of_colour params ∷ []
ranges_of tracked (TexImage2D target level internalformat width height border format kind pixels) memory = ranges_of_image tracked format width height pixels
ranges_of tracked (TexSubImage2D target level xoffset yoffset width height format kind pixels) memory = range_of_image tracked format width height pixels ∷ []
ranges_of tracked _ memory = []

-- whether a call without an error may read any place of memory: only DrawElements, by tracked state; section 2.9
unfoldable pub reads_all : Tracked → Call → Bool
reads_all tracked (DrawElements mode count kind indices) = elements_read_all tracked count
reads_all tracked _ = false

-- ranges where there was no error, and none where there was one; section 2.5
abbrev pub none_on_fault : Option GlError → List Piece → List Piece
none_on_fault None ranges = ranges
none_on_fault (Some error) ranges = []

-- what is read: nothing where there was an error, and else everything or these ranges; section 2.5
abbrev pub reads_by : Option GlError → Bool → List Piece → Reads
reads_by (Some error) all ranges = Ranges []
reads_by None true ranges = Everything
reads_by None false ranges = Ranges ranges

-- what a call reads of a memory: a call with an error reads nothing; section 2.5 and those of the calls
unfoldable pub reads_of : Tracked → Call → List Segment → Reads
reads_of tracked call memory = reads_by (fault_of tracked call) (reads_all tracked call) (ranges_of tracked call memory)

-- the number of tracked state for which a call asks, if it asks for one; section 6.1
unfoldable pub number_asked : Tracked → Call → Option ℤ
number_asked tracked (GetIntegerv pname params) = integer_asked tracked pname
number_asked tracked (GetPointerv pname params) = pointer_asked tracked pname
number_asked tracked (IsEnabled cap) = enabled_asked tracked cap
number_asked tracked _ = None
