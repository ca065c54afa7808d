-- What a call does to tracked state, what it reads and for what it asks, by the kinds of calls.
use Rattle.std.proofs.Common.{◌≡◌, ℕ, ℤ, Bool, true, false, List, [], ◌∷◌, Option, Some, None, refl, sym, ap, ◌∙◌}
use Rattle.std.proofs.lemmas.Bool.{true≢false}
use Rattle.std.proofs.lemmas.Option.{none-some}
use Rattle.gl_words.specs.Call.{is_answering}
use Rattle.gl_words.specs.declared.call.Call.{Call}
use Rattle.gl_words.specs.declared.call.Call.TheVariants.{ActiveTexture, BindBuffer, BufferData, BufferSubData, ClientActiveTexture, ColorPointer, DeleteBuffers, DeleteTextures, DisableClientState, DrawArrays, DrawElements, EnableClientState, GetIntegerv, GetPointerv, IsEnabled, LoadMatrixx, MatrixMode, MultMatrixx, NormalPointer, PixelStorei, PopMatrix, PushMatrix, TexCoordPointer, TexEnvxv, TexImage2D, TexSubImage2D, VertexPointer}
use Rattle.gl_words.specs.declared.error.GlError.{GlError}
use Rattle.gl_memory.specs.Segment.{Segment}
use Rattle.gl_tracked.specs.declared.tracked.Tracked.{Tracked}
use Rattle.gl_tracked.specs.Fault.{fault_of}
use Rattle.gl_tracked.specs.Ranges.{elements_read_all, range_of_matrix, ranges_of_draw, ranges_of_elements}
use Rattle.gl_tracked.specs.Reads.{Ranges}
use Rattle.gl_tracked.specs.Step.{set_by, unless_fault, tracked_after, ranges_of, reads_all, reads_by, reads_of, number_asked}

set_by-asked : (tracked : Tracked) (call : Call) (memory : List Segment) (number : ℤ) → number_asked tracked call ≡ Some number → set_by tracked call memory ≡ tracked
unfolding number_asked set_by
set_by-asked tracked (GetIntegerv pname params) memory number asked = refl
set_by-asked tracked (GetPointerv pname params) memory number asked = refl
set_by-asked tracked (IsEnabled cap) memory number asked = refl
set_by-asked tracked _ memory number asked = absurd (none-some number asked)

-- whatever the error, tracked state that isn't set stays
pub unless_fault-same : (fault : Option GlError) (tracked : Tracked) → unless_fault fault tracked tracked ≡ tracked
unless_fault-same None tracked = refl
unless_fault-same (Some error) tracked = refl

-- a call that asks for a number of tracked state leaves it
pub tracked_after-asked : (tracked : Tracked) (call : Call) (memory : List Segment) (number : ℤ) → number_asked tracked call ≡ Some number → tracked_after tracked call memory ≡ tracked
unfolding tracked_after
tracked_after-asked tracked call memory number asked =
    ap (unless_fault (fault_of tracked call) tracked) (set_by-asked tracked call memory number asked) ∙ unless_fault-same (fault_of tracked call) tracked

-- a call that isn't answered asks for no number of tracked state
pub number_asked-unanswered : (tracked : Tracked) (call : Call) → is_answering call ≡ false → number_asked tracked call ≡ None
unfolding is_answering number_asked
number_asked-unanswered tracked (GetIntegerv pname params) h = absurd (true≢false h)
number_asked-unanswered tracked (GetPointerv pname params) h = absurd (true≢false h)
number_asked-unanswered tracked (IsEnabled cap) h = absurd (true≢false h)
number_asked-unanswered tracked _ h = refl

-- whether a call may change tracked state; own
abbrev pub may_set : Call → Bool
may_set (ActiveTexture texture) = true
may_set (BindBuffer target buffer) = true
may_set (ClientActiveTexture texture) = true
may_set (ColorPointer size kind stride pointer) = true
may_set (DeleteBuffers n names) = true
may_set (DisableClientState array) = true
may_set (EnableClientState array) = true
may_set (MatrixMode mode) = true
may_set (NormalPointer kind stride pointer) = true
may_set (PixelStorei pname param) = true
may_set PopMatrix = true
may_set PushMatrix = true
may_set (TexCoordPointer size kind stride pointer) = true
may_set (VertexPointer size kind stride pointer) = true
may_set _ = false

-- whether a call may read memory; own
abbrev pub may_read : Call → Bool
may_read (BufferData target size source usage) = true
may_read (BufferSubData target offset size source) = true
may_read (DeleteBuffers n names) = true
may_read (DeleteTextures n names) = true
may_read (DrawArrays mode first count) = true
may_read (DrawElements mode count kind indices) = true
may_read (LoadMatrixx matrix) = true
may_read (MultMatrixx matrix) = true
may_read (TexEnvxv target pname params) = true
may_read (TexImage2D target level internalformat width height border format kind pixels) = true
may_read (TexSubImage2D target level xoffset yoffset width height format kind pixels) = true
may_read _ = false

set_by-others : (tracked : Tracked) (call : Call) (memory : List Segment) → may_set call ≡ false → set_by tracked call memory ≡ tracked
unfolding set_by
set_by-others tracked (ActiveTexture texture) memory h = absurd (cc)
set_by-others tracked (BindBuffer target buffer) memory h = absurd (cc)
set_by-others tracked (ClientActiveTexture texture) memory h = absurd (cc)
set_by-others tracked (ColorPointer size kind stride pointer) memory h = absurd (cc)
set_by-others tracked (DeleteBuffers n names) memory h = absurd (cc)
set_by-others tracked (DisableClientState array) memory h = absurd (cc)
set_by-others tracked (EnableClientState array) memory h = absurd (cc)
set_by-others tracked (MatrixMode mode) memory h = absurd (cc)
set_by-others tracked (NormalPointer kind stride pointer) memory h = absurd (cc)
set_by-others tracked (PixelStorei pname param) memory h = absurd (cc)
set_by-others tracked PopMatrix memory h = absurd (cc)
set_by-others tracked PushMatrix memory h = absurd (cc)
set_by-others tracked (TexCoordPointer size kind stride pointer) memory h = absurd (cc)
set_by-others tracked (VertexPointer size kind stride pointer) memory h = absurd (cc)
set_by-others tracked _ memory h = refl

-- every other call leaves tracked state
pub tracked_after-others : (tracked : Tracked) (call : Call) (memory : List Segment) → may_set call ≡ false → tracked ≡ tracked_after tracked call memory
unfolding tracked_after
tracked_after-others tracked call memory h =
    sym (ap (unless_fault (fault_of tracked call) tracked) (set_by-others tracked call memory h) ∙ unless_fault-same (fault_of tracked call) tracked)

-- no call that is answered sets tracked state
answering-sets_nothing : (call : Call) → is_answering call ≡ true → may_set call ≡ false
unfolding is_answering
answering-sets_nothing (ActiveTexture texture) h = absurd (cc)
answering-sets_nothing (BindBuffer target buffer) h = absurd (cc)
answering-sets_nothing (ClientActiveTexture texture) h = absurd (cc)
answering-sets_nothing (ColorPointer size kind stride pointer) h = absurd (cc)
answering-sets_nothing (DeleteBuffers n names) h = absurd (cc)
answering-sets_nothing (DisableClientState array) h = absurd (cc)
answering-sets_nothing (EnableClientState array) h = absurd (cc)
answering-sets_nothing (MatrixMode mode) h = absurd (cc)
answering-sets_nothing (NormalPointer kind stride pointer) h = absurd (cc)
answering-sets_nothing (PixelStorei pname param) h = absurd (cc)
answering-sets_nothing PopMatrix h = absurd (cc)
answering-sets_nothing PushMatrix h = absurd (cc)
answering-sets_nothing (TexCoordPointer size kind stride pointer) h = absurd (cc)
answering-sets_nothing (VertexPointer size kind stride pointer) h = absurd (cc)
answering-sets_nothing _ h = refl

-- a call that is answered leaves tracked state
pub tracked_after-answering : (tracked : Tracked) (call : Call) (memory : List Segment) → is_answering call ≡ true → tracked ≡ tracked_after tracked call memory
tracked_after-answering tracked call memory h = tracked_after-others tracked call memory (answering-sets_nothing call h)

-- a call with an error leaves tracked state; section 2.5
pub tracked_after-fault : (tracked : Tracked) (call : Call) (memory : List Segment) (error : GlError) → fault_of tracked call ≡ Some error → tracked_after tracked call memory ≡ tracked
unfolding tracked_after
tracked_after-fault tracked call memory error h = ap (λ (fault : Option GlError). unless_fault fault tracked (set_by tracked call memory)) h

-- a call without an error sets what the table says
pub tracked_after-no_fault : (tracked : Tracked) (call : Call) (memory : List Segment) → fault_of tracked call ≡ None → tracked_after tracked call memory ≡ set_by tracked call memory
unfolding tracked_after
tracked_after-no_fault tracked call memory h = ap (λ (fault : Option GlError). unless_fault fault tracked (set_by tracked call memory)) h

-- a call without an error reads what the table says
pub reads_of-no_fault : (tracked : Tracked) (call : Call) (memory : List Segment) → fault_of tracked call ≡ None
    → reads_of tracked call memory ≡ reads_by None (reads_all tracked call) (ranges_of tracked call memory)
unfolding reads_of
reads_of-no_fault tracked call memory h = ap (λ (fault : Option GlError). reads_by fault (reads_all tracked call) (ranges_of tracked call memory)) h

-- a call with an error reads nothing; section 2.5
pub reads_of-fault : (tracked : Tracked) (call : Call) (memory : List Segment) (error : GlError) → fault_of tracked call ≡ Some error → reads_of tracked call memory ≡ Ranges []
unfolding reads_of
reads_of-fault tracked call memory error h = ap (λ (fault : Option GlError). reads_by fault (reads_all tracked call) (ranges_of tracked call memory)) h

read_by_draw : (tracked : Tracked) (mode : ℕ) (first count : ℤ) (memory : List Segment)
    → reads_by None (reads_all tracked (DrawArrays mode first count)) (ranges_of tracked (DrawArrays mode first count) memory) ≡ Ranges (ranges_of_draw tracked first count)
unfolding reads_all ranges_of
read_by_draw tracked mode first count memory = refl

-- a draw without an error reads its elements; section 2.8
pub reads_of-draw : (tracked : Tracked) (mode : ℕ) (first count : ℤ) (memory : List Segment) → fault_of tracked (DrawArrays mode first count) ≡ None
    → reads_of tracked (DrawArrays mode first count) memory ≡ Ranges (ranges_of_draw tracked first count)
reads_of-draw tracked mode first count memory h = reads_of-no_fault tracked (DrawArrays mode first count) memory h ∙ read_by_draw tracked mode first count memory

read_by_elements : (tracked : Tracked) (mode : ℕ) (count : ℤ) (kind indices : ℕ) (memory : List Segment)
    → reads_by None (reads_all tracked (DrawElements mode count kind indices)) (ranges_of tracked (DrawElements mode count kind indices) memory)
    ≡ reads_by None (elements_read_all tracked count) (ranges_of_elements tracked count kind indices memory)
unfolding reads_all ranges_of
read_by_elements tracked mode count kind indices memory = refl

-- a draw by indices without an error reads everything, or the elements that they name and the indices; sections 2.8 and 2.9
pub reads_of-elements : (tracked : Tracked) (mode : ℕ) (count : ℤ) (kind indices : ℕ) (memory : List Segment) → fault_of tracked (DrawElements mode count kind indices) ≡ None
    → reads_of tracked (DrawElements mode count kind indices) memory ≡ reads_by None (elements_read_all tracked count) (ranges_of_elements tracked count kind indices memory)
reads_of-elements tracked mode count kind indices memory h = reads_of-no_fault tracked (DrawElements mode count kind indices) memory h ∙ read_by_elements tracked mode count kind indices memory

-- a matrix reads its 16 numbers; section 2.10.2
pub reads_of-load : (tracked : Tracked) (matrix : ℕ) (memory : List Segment) → reads_of tracked (LoadMatrixx matrix) memory ≡ Ranges (range_of_matrix matrix ∷ [])
unfolding reads_of fault_of reads_all ranges_of
reads_of-load tracked matrix memory = refl

pub reads_of-multiply : (tracked : Tracked) (matrix : ℕ) (memory : List Segment) → reads_of tracked (MultMatrixx matrix) memory ≡ Ranges (range_of_matrix matrix ∷ [])
unfolding reads_of fault_of reads_all ranges_of
reads_of-multiply tracked matrix memory = refl

reads_by-nothing : (fault : Option GlError) → reads_by fault false [] ≡ Ranges []
reads_by-nothing None = refl
reads_by-nothing (Some error) = refl

reads_by-none : (tracked : Tracked) (call : Call) (memory : List Segment) (fault : Option GlError) → may_read call ≡ false → reads_by fault (reads_all tracked call) (ranges_of tracked call memory) ≡ Ranges []
unfolding ranges_of reads_all
reads_by-none tracked (BufferData target size source usage) memory fault h = absurd (cc)
reads_by-none tracked (BufferSubData target offset size source) memory fault h = absurd (cc)
reads_by-none tracked (DeleteBuffers n names) memory fault h = absurd (cc)
reads_by-none tracked (DeleteTextures n names) memory fault h = absurd (cc)
reads_by-none tracked (DrawArrays mode first count) memory fault h = absurd (cc)
reads_by-none tracked (DrawElements mode count kind indices) memory fault h = absurd (cc)
reads_by-none tracked (LoadMatrixx matrix) memory fault h = absurd (cc)
reads_by-none tracked (MultMatrixx matrix) memory fault h = absurd (cc)
reads_by-none tracked (TexEnvxv target pname params) memory fault h = absurd (cc)
reads_by-none tracked (TexImage2D target level internalformat width height border format kind pixels) memory fault h = absurd (cc)
reads_by-none tracked (TexSubImage2D target level xoffset yoffset width height format kind pixels) memory fault h = absurd (cc)
reads_by-none tracked _ memory fault h = reads_by-nothing fault

-- no other call reads memory
pub reads_of-none : (tracked : Tracked) (call : Call) (memory : List Segment) → may_read call ≡ false → reads_of tracked call memory ≡ Ranges []
unfolding reads_of
reads_of-none tracked call memory h = reads_by-none tracked call memory (fault_of tracked call) h
