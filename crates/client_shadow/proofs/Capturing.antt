-- What is captured for a call that is put off is what it reads.
use Rattle.std.proofs.Common.{◌≡◌, ℕ, ◌<◌, inl, inr, Bool, true, false, List, [], Option, Some, None, length, get_or, sym, ap, subst, ◌∙◌, arith}
use Rattle.std.specs.List.{All, range_with_len}
use Rattle.std.proofs.lemmas.Bool.{cases_lt, true≢false}
use Rattle.std.proofs.lemmas.List.{get_or_past}
use Rattle.std.proofs.lemmas.List.Elements.{All-map, All-nil}
use Rattle.gl_words.specs.declared.call.Call.{Call}
use Rattle.gl_words.specs.declared.call.Call.TheVariants.{BufferData, BufferSubData, DeleteBuffers, DeleteTextures, DrawArrays, DrawElements, LoadMatrixx, MultMatrixx, TexEnvxv, TexImage2D, TexSubImage2D}
use Rattle.gl_words.specs.declared.error.GlError.{GlError}
use Rattle.gl_memory.specs.Piece.{Agree, LiesIn, bytes_from, cut, cut_out}
use Rattle.gl_memory.specs.Segment.{Segment, byte_at, AreBytes}
use Rattle.gl_memory.specs.ClientMemory.{memory_of}
use Rattle.gl_memory.specs.declared.piece.Piece.{Piece}
use Rattle.gl_memory.proofs.Bytes.{byte_at-memory_of}
use Rattle.gl_tracked.specs.declared.tracked.Tracked.{Tracked}
use Rattle.gl_tracked.specs.Fault.{fault_of}
use Rattle.gl_tracked.specs.Reads.{AgreesOn}
use Rattle.gl_tracked.specs.Step.{none_on_fault, ranges_of, reads_all, reads_by, reads_of}
use Rattle.array_capture.proofs.Covering.{pieces_of_bytes-serve, pieces_of_colour-serve, pieces_of_data-serve, pieces_of_draw-serve, pieces_of_elements-serve, pieces_of_image-serve, pieces_of_matrix-serve, pieces_of_names-serve, pieces_of_subimage-serve}
use Rattle.batch_pack.specs.Batch.{captured}
use Rattle.client_shadow.specs.declared.class.Class.TheVariants.{Defer}
use Rattle.client_shadow.specs.Class.{class_of, captured_for, pieces_of, pieces_without_fault, reads_anywhere}
use Rattle.client_shadow.proofs.Classes.{reads_all-defer}

-- for a call without an error
agrees_without_fault : (tracked : Tracked) (call : Call) (memory : List Segment)
    → Agree memory (cut (pieces_without_fault tracked call memory) memory) (ranges_of tracked call memory)
unfolding pieces_without_fault ranges_of
agrees_without_fault tracked (BufferData target size source usage) memory = (pieces_of_data-serve source size memory).agree
agrees_without_fault tracked (BufferSubData target offset size source) memory = (pieces_of_bytes-serve source size memory).agree
agrees_without_fault tracked (DeleteBuffers n names) memory = (pieces_of_names-serve names n memory).agree
agrees_without_fault tracked (DeleteTextures n names) memory = (pieces_of_names-serve names n memory).agree
agrees_without_fault tracked (DrawArrays mode first count) memory = (pieces_of_draw-serve tracked first count memory).agree
agrees_without_fault tracked (DrawElements mode count kind indices) memory = (pieces_of_elements-serve tracked count kind indices memory).agree
agrees_without_fault tracked (LoadMatrixx matrix) memory = (pieces_of_matrix-serve matrix memory).agree
agrees_without_fault tracked (MultMatrixx matrix) memory = (pieces_of_matrix-serve matrix memory).agree
agrees_without_fault tracked (TexEnvxv target pname params) memory = (pieces_of_colour-serve params memory).agree
agrees_without_fault tracked (TexImage2D target level internalformat width height border format kind pixels) memory =
    (pieces_of_image-serve tracked format width height pixels memory).agree
agrees_without_fault tracked (TexSubImage2D target level xoffset yoffset width height format kind pixels) memory =
    (pieces_of_subimage-serve tracked format width height pixels memory).agree
agrees_without_fault tracked _ memory = All-nil (λ (range : Piece). (place : ℕ) → LiesIn place range → byte_at memory place ≡ byte_at (cut [] memory) place)

-- where there is an error nothing is read, and nothing captured; where there is none, and not all is read, what is read lies in pieces
agrees_by : (fault : Option GlError) (all : Bool) (pieces ranges : List Piece) (memory : List Segment) → reads_anywhere fault all ≡ false → Agree memory (cut pieces memory) ranges
    → AgreesOn memory (cut (none_on_fault fault pieces) memory) (reads_by fault all ranges)
agrees_by None false pieces ranges memory not_all agrees = agrees
agrees_by None true pieces ranges memory not_all agrees = absurd (true≢false not_all)
agrees_by (Some error) all pieces ranges memory not_all agrees = All-nil (λ (range : Piece). (place : ℕ) → LiesIn place range → byte_at memory place ≡ byte_at (cut [] memory) place)

-- memory and what is captured of it agree where the call reads
pub captured_agrees : (tracked : Tracked) (call : Call) (memory : List Segment) (slots : ℕ) → class_of tracked call memory slots ≡ Defer
    → AgreesOn memory (cut (pieces_of tracked call memory) memory) (reads_of tracked call memory)
unfolding pieces_of reads_of
captured_agrees tracked call memory slots class =
    agrees_by (fault_of tracked call) (reads_all tracked call) (pieces_without_fault tracked call memory) (ranges_of tracked call memory) memory
    (reads_all-defer tracked call memory slots class) (agrees_without_fault tracked call memory)

-- a call with these pieces, as a batch packs it, is the call with what is captured for it
pub captured-captured_for : (tracked : Tracked) (call : Call) (pieces : List Piece) (bytes : List ℕ) → pieces ≡ pieces_of tracked call (memory_of bytes)
    → captured call pieces bytes ≡ captured_for tracked call (memory_of bytes)
unfolding captured_for
captured-captured_for tracked call pieces bytes are = ap (λ (l : List Piece). captured call l bytes) are

byte-small : (bytes : List ℕ) → AreBytes (memory_of bytes) → (place : ℕ) → byte_at (memory_of bytes) place < 256
byte-small bytes small place =
    let P : ℕ → Type 0 = λ n. n < 256 in
    elim (cases_lt place (length bytes)) [
      | inl within ↦ subst P (sym (byte_at-memory_of bytes place)) (small 0 (record { start = 0; bytes = bytes }) (omega arith) place 0 within)
      | inr past ↦ subst P (sym (byte_at-memory_of bytes place ∙ get_or_past bytes place 0 past)) (omega arith)
    ]

cut_out-small : (bytes : List ℕ) (piece : Piece) → AreBytes (memory_of bytes) → All (λ byte. byte < 256) (cut_out (memory_of bytes) piece).bytes
unfolding cut_out bytes_from
cut_out-small bytes piece small =
    All-map (λ byte. byte < 256) (byte_at (memory_of bytes)) (range_with_len piece.start piece.len)
    (λ number other within. byte-small bytes small (get_or (range_with_len piece.start piece.len) number other))

-- what is captured of bytes is bytes
pub AreBytes-cut : (pieces : List Piece) (bytes : List ℕ) → AreBytes (memory_of bytes) → AreBytes (cut pieces (memory_of bytes))
unfolding cut
AreBytes-cut pieces bytes small =
    All-map (λ (segment : Segment). All (λ byte. byte < 256) segment.bytes) (cut_out (memory_of bytes)) pieces
    (λ number other within. cut_out-small bytes (get_or pieces number other) small)
