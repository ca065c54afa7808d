-- The class of a call: whether it is answered at once, waits, or is put off; own, after Mesa. No batch is filled here.
use Rattle.std.specs.Prelude.{ℕ, Bool, ◌||◌, nat_lt, if◌then◌else◌, List, [], Option, None, Some, is_some, true, false}
use Rattle.gl_words.specs.Call.{is_answering}
use Rattle.gl_words.specs.declared.call.Call.{Call}
use Rattle.gl_words.specs.declared.call.Call.TheVariants.{BufferData, BufferSubData, DeleteBuffers, DeleteTextures, DrawArrays, DrawElements, Finish, LoadMatrixx, MultMatrixx, TexEnvxv, TexImage2D, TexSubImage2D}
use Rattle.gl_words.specs.declared.error.GlError.{GlError}
use Rattle.gl_memory.specs.Segment.{Segment}
use Rattle.gl_memory.specs.Piece.{cut}
use Rattle.gl_memory.specs.declared.piece.Piece.{Piece}
use Rattle.array_capture.specs.Pieces.{pieces_of_bytes, pieces_of_colour, pieces_of_data, pieces_of_draw, pieces_of_elements, pieces_of_image, pieces_of_matrix, pieces_of_names, pieces_of_subimage}
use Rattle.client_shadow.specs.Cutting.{Issued}
use Rattle.batch_pack.specs.Spelling.{Spelled, slots_of}
use Rattle.client_shadow.specs.declared.class.Class.{Class}
use Rattle.client_shadow.specs.declared.class.Class.TheVariants.{Answer, Sync, Defer}
use Rattle.gl_tracked.specs.declared.tracked.Tracked.{Tracked}
use Rattle.gl_tracked.specs.Fault.{fault_of}
use Rattle.gl_tracked.specs.Step.{none_on_fault, number_asked, reads_all}

-- the pieces of client memory for a call without an error: those of a draw, and that of a matrix, of bytes, of names, of an image or of a colour, and none for any other call; sections 2.8, 2.9, 2.10.2, 3.7.1, 3.7.2, 3.7.11 and 3.7.12, the cut own
unfoldable pub pieces_without_fault : Tracked → Call → List Segment → List Piece
pieces_without_fault tracked (BufferData target size source usage) memory = pieces_of_data source size memory
pieces_without_fault tracked (BufferSubData target offset size source) memory = pieces_of_bytes source size memory
pieces_without_fault tracked (DeleteBuffers n names) memory = pieces_of_names names n memory
pieces_without_fault tracked (DeleteTextures n names) memory = pieces_of_names names n memory
pieces_without_fault tracked (DrawArrays mode first count) memory = pieces_of_draw tracked first count memory
pieces_without_fault tracked (DrawElements mode count kind indices) memory = pieces_of_elements tracked count kind indices memory
pieces_without_fault tracked (LoadMatrixx matrix) memory = pieces_of_matrix matrix memory
pieces_without_fault tracked (MultMatrixx matrix) memory = pieces_of_matrix matrix memory
pieces_without_fault tracked (TexEnvxv target pname params) memory = pieces_of_colour params memory
pieces_without_fault tracked (TexImage2D target level internalformat width height border format kind pixels) memory = pieces_of_image tracked format width height pixels memory
pieces_without_fault tracked (TexSubImage2D target level xoffset yoffset width height format kind pixels) memory = pieces_of_subimage tracked format width height pixels memory
pieces_without_fault tracked _ memory = []

-- the pieces of client memory that are captured for a call: a call with an error reads nothing, so there are none for it; own
unfoldable pub pieces_of : Tracked → Call → List Segment → List Piece
pieces_of tracked call memory = none_on_fault (fault_of tracked call) (pieces_without_fault tracked call memory)

-- a call with what is captured for it; own
unfoldable pub captured_for : Tracked → Call → List Segment → Spelled
captured_for tracked call memory = record { call = call; segments = cut (pieces_of tracked call memory) memory }

-- a call waits for all before it, whatever it asks and reads; section 5.1
abbrev pub is_finish : Call → Bool
is_finish Finish = true
is_finish _ = false

-- whether a call with this error, or none, may read any place of client memory: with an error it reads nothing; section 2.5
abbrev pub reads_anywhere : Option GlError → Bool → Bool
reads_anywhere None all = all
reads_anywhere (Some error) all = false

-- whether a call waits for all before it though it asks for nothing: Finish, and a call that may read any place of client memory, of which no pieces can be captured; sections 2.9 and 5.1, the latter own
unfoldable pub waits : Tracked → Call → Bool
waits tracked call = is_finish call || reads_anywhere (fault_of tracked call) (reads_all tracked call)

-- the class of a call that asks for no number of tracked state, by whether it waits though it asks for nothing, and by the slots of its spelling: what is answered waits, as does a call that is longer than a batch; all others are put off; own
abbrev pub class_unasked : Call → Bool → ℕ → ℕ → Class
class_unasked call waiting length slots =
    if is_answering call then Sync else (
    if waiting then Sync else (
    if nat_lt slots length then Sync else Defer))

-- the class of a call, with batches of so many slots: a get of tracked state is answered; own
unfoldable pub class_of : Tracked → Call → List Segment → ℕ → Class
class_of tracked call memory slots =
    if is_some (number_asked tracked call) then Answer else class_unasked call (waits tracked call) (slots_of (captured_for tracked call memory)) slots

-- a call as it is issued: its class, and itself with what is captured for it; own
unfoldable pub issued_at : Tracked → Call → List Segment → ℕ → Issued
issued_at tracked call memory slots = record { class = class_of tracked call memory slots; spelled = captured_for tracked call memory }
