-- How an open batch is cut at one call.
use Rattle.std.proofs.Common.{◌≡◌, ℕ, ◌≤◌, true, false, List, [], ◌∷◌, ◌++◌, refl, ap, sym, ◌∙◌, arith}
use Rattle.std.proofs.lemmas.List.{append-nil}
use Rattle.client_shadow.specs.declared.class.Class.TheVariants.{Defer}
use Rattle.batch_pack.specs.Spelling.{Spelled}
use Rattle.batch_pack.specs.Batch.{slots_used}
use Rattle.client_shadow.specs.Flush.{is_flush}
use Rattle.client_shadow.specs.Cutting.{batch_unless_empty, joined, cut_before, ended_by}
use Rattle.batch_pack.proofs.Packings.{slots_used-nil, slots_used-append, slots_used-one}
use Rattle.batch_pack.proofs.Parsing.{some_slots}

-- a batch without slots in use has no calls
pub nil_from_slots : (calls : List Spelled) → slots_used calls ≡ 0 → calls ≡ []
nil_from_slots [] none = refl
nil_from_slots (call ∷ calls) none =
    absurd (omega (arith, slots_used-append (call ∷ []) calls, slots_used-one call, some_slots call))

-- a batch with slots in use is a batch
pub some_from_slots : (calls : List Spelled) → 1 ≤ slots_used calls → batch_unless_empty calls ≡ calls ∷ []
some_from_slots [] some = absurd (omega (arith, slots_used-nil))
some_from_slots (call ∷ calls) some = refl

-- a batch with a call behind others is a batch
pub batch_unless_empty-push : (calls : List Spelled) (call : Spelled) → batch_unless_empty (calls ++ call ∷ []) ≡ (calls ++ call ∷ []) ∷ []
batch_unless_empty-push [] call = refl
batch_unless_empty-push (first ∷ calls) call = refl

module _ (size : ℕ) (batch : List Spelled) (call : Spelled) where
  -- where a deferred call doesn't send the batch, what ends there ended before it
  pub ended_by-stays : is_flush call.call ≡ false → cut_before size batch call ≡ ended_by Defer size batch call
  ended_by-stays flush = rw (flush) (sym (append-nil (cut_before size batch call)))

  -- where it does, the batch that it is the last call of ends as well
  pub ended_by-sends : is_flush call.call ≡ true → (calls : List Spelled) → calls ≡ joined size batch call ++ call ∷ []
      → cut_before size batch call ++ batch_unless_empty calls ≡ ended_by Defer size batch call
  ended_by-sends flush calls behind =
      ap (λ (l : List Spelled). cut_before size batch call ++ batch_unless_empty l) behind
      ∙ ap (λ (last : List (List Spelled)). cut_before size batch call ++ last) (batch_unless_empty-push (joined size batch call) call)
      ∙ rw (flush) refl
