-- The open batch that is there, and a call as a front issues it and packs it: with the pieces that are captured for it.
use Rattle.std.proofs.Common.{◌≡◌, ℕ, ◌<◌, ◌≤◌, List, [], ◌∷◌, Option, Some, refl, sym, ap, subst, ◌∙◌, arith}
use Rattle.std.specs.Prelude.{MatchOption}
use Rattle.gl_words.specs.declared.call.Call.{Call}
use Rattle.gl_memory.specs.Piece.{cut}
use Rattle.gl_memory.specs.Segment.{Segment}
use Rattle.gl_memory.specs.ClientMemory.{memory_of}
use Rattle.gl_memory.specs.declared.piece.Piece.{Piece}
use Rattle.client_shadow.specs.declared.class.Class.{Class}
use Rattle.client_shadow.specs.declared.class.Class.TheVariants.{Defer}
use Rattle.batch_pack.specs.Batch.{BatchView, captured, slots_left, slots_used}
use Rattle.client_shadow.specs.Cutting.{batch_unless_empty, cut_before, ended_at, ended_by, open_after, open_by}
use Rattle.batch_pack.specs.Spelling.{Spelled, slots_of}
use Rattle.gl_tracked.specs.declared.tracked.Tracked.{Tracked}
use Rattle.gl_tracked.specs.Reads.{AgreesOn}
use Rattle.gl_tracked.specs.Step.{reads_of}
use Rattle.client_shadow.specs.Class.{class_of, captured_for, issued_at, pieces_of}
use Rattle.client_shadow.proofs.Batching.{cut_before-full}
use Rattle.client_shadow.proofs.Classes.{slots_of-defer}
use Rattle.client_shadow.proofs.Capturing.{captured_agrees, captured-captured_for}
use Rattle.gl_front.specs.FrontState.{open_calls}
use Rattle.gl_front.proofs.Cuttings.{nil_from_slots, some_from_slots}

-- the open batch that is there has the calls, and the slots left, that are seen of it
module _ (held : Option BatchView) (batch : BatchView) (is : held ≡ Some batch) where
  pub batch_calls : batch.calls ≡ open_calls held
  batch_calls = sym (ap open_calls is)

  pub batch_left : (size : ℕ) → MatchOption held ⊥ (λ b. b.size ≡ size) → slots_left batch ≡ slots_left (record { size = size; calls = open_calls held })
  batch_left size sized =
      let same : batch.size ≡ size = subst (λ (b : Option BatchView). MatchOption b ⊥ (λ p. p.size ≡ size)) is sized in
      let resized : ℕ → BatchView = λ n. record { size = n; calls = batch.calls } in
      let with_calls : List Spelled → BatchView = λ l. record { size = size; calls = l } in
      ap slots_left (ap resized same ∙ ap with_calls batch_calls)

  -- without slots in use it has no calls, and else they are a batch
  pub nil_held : slots_used batch.calls ≡ 0 → open_calls held ≡ []
  nil_held none = sym batch_calls ∙ nil_from_slots batch.calls none

  pub some_held : 1 ≤ slots_used batch.calls → batch_unless_empty (open_calls held) ≡ open_calls held ∷ []
  some_held some = some_from_slots (open_calls held) (omega (arith, some, ap slots_used batch_calls))

  module _ (size : ℕ) (sized : MatchOption held ⊥ (λ b. b.size ≡ size)) (slots : ℕ) (call : Spelled) (counted : slots ≡ slots_of call) where
    -- a call fits behind these calls where its slots are left
    pub fits_held : slots ≤ slots_left batch → slots_of call ≤ slots_left (record { size = size; calls = open_calls held })
    fits_held fits = omega (arith, batch_left size sized)

    pub full_held : slots_left batch < slots → slots_left (record { size = size; calls = open_calls held }) < slots_of call
    full_held full = omega (arith, batch_left size sized)

    -- and else the batch ends before it
    pub cut_before-held : slots_left batch < slots → batch_unless_empty batch.calls ≡ cut_before size (open_calls held) call
    cut_before-held full = ap batch_unless_empty batch_calls ∙ sym (cut_before-full size (open_calls held) call (full_held full))

-- the class of a call as it is issued
pub class-issued_at : (tracked : Tracked) (call : Call) (memory : List Segment) (slots : ℕ) → (issued_at tracked call memory slots).class ≡ class_of tracked call memory slots
unfolding issued_at
class-issued_at tracked call memory slots = refl

module _ (tracked : Tracked) (call : Call) (bytes : List ℕ) (slots : ℕ) (pieces : List Piece)
    (are : pieces ≡ pieces_of tracked call (memory_of bytes)) (class : class_of tracked call (memory_of bytes) slots ≡ Defer) where
  -- what is packed fits a batch
  pub captured-short : slots_of (captured call pieces bytes) ≤ slots
  captured-short =
      subst (λ (spelled : Spelled). slots_of spelled ≤ slots) (sym (captured-captured_for tracked call pieces bytes are)) (slots_of-defer tracked call (memory_of bytes) slots class)

  -- and agrees with memory where the call reads
  pub captured-agrees : AgreesOn (memory_of bytes) (cut pieces (memory_of bytes)) (reads_of tracked call (memory_of bytes))
  captured-agrees =
      subst (λ (l : List Piece). AgreesOn (memory_of bytes) (cut l (memory_of bytes)) (reads_of tracked call (memory_of bytes))) (sym are) (captured_agrees tracked call (memory_of bytes) slots class)

  module _ (calls : List Spelled) where
    pub ended_by-issued : ended_by Defer slots calls (captured call pieces bytes) ≡ ended_at slots calls (issued_at tracked call (memory_of bytes) slots)
    unfolding ended_at issued_at
    ended_by-issued =
        ap (λ (spelled : Spelled). ended_by Defer slots calls spelled) (captured-captured_for tracked call pieces bytes are)
        ∙ ap (λ (k : Class). ended_by k slots calls (captured_for tracked call (memory_of bytes))) (sym class)

    pub open_by-issued : open_by Defer slots calls (captured call pieces bytes) ≡ open_after slots calls (issued_at tracked call (memory_of bytes) slots)
    unfolding open_after issued_at
    open_by-issued =
        ap (λ (spelled : Spelled). open_by Defer slots calls spelled) (captured-captured_for tracked call pieces bytes are)
        ∙ ap (λ (k : Class). open_by k slots calls (captured_for tracked call (memory_of bytes))) (sym class)
