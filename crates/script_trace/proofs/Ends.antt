-- The open batch by its numbers beside its calls: what ends at a call, and what is open behind it.
use Rattle.std.proofs.Common.{◌≡◌, ℕ, ◌+◌, Bool, true, false, cond, eqb, List, [], ◌∷◌, ◌++◌, length, map, Option, Some, None, refl, sym, ap, subst, ◌∙◌, arith, length-append}
use Rattle.std.specs.Prelude.{nat_le}
use Rattle.std.proofs.lemmas.Bool.{ne_eqb}
use Rattle.std.proofs.lemmas.List.{append-nil, map-append}
use Rattle.gl_words.specs.declared.call.Call.{Call}
use Rattle.batch_pack.specs.Batch.{slots_used}
use Rattle.batch_pack.specs.Spelling.{Spelled, slots_of}
use Rattle.batch_pack.proofs.Packings.{slots_used-nil, slots_used-append, slots_used-one}
use Rattle.client_shadow.specs.Cutting.{batch_unless_empty, cut_before, ended_by, fits_behind, joined, open_by}
use Rattle.client_shadow.specs.Flush.{is_flush}
use Rattle.client_shadow.specs.declared.class.Class.{Class}
use Rattle.client_shadow.specs.declared.class.Class.TheVariants.{Answer, Sync, Defer}
use Rattle.script_trace.specs.Law.{lengths_of, measured}
use Rattle.script_trace.specs.OpenBatch.{batch_behind, behind_end, end_of_batch, ended_before, ended_with, fits, with_call, with_class}
use Rattle.script_trace.specs.Tallies.{listed}
use Rattle.script_trace.specs.declared.fate.BatchEnd.{BatchEnd}
use Rattle.script_trace.specs.declared.fate.Why.{Why}
use Rattle.script_trace.specs.declared.fate.Why.TheVariants.{Full, Sent, Waits}
use Rattle.script_trace.specs.declared.open_batch.OpenBatch.{OpenBatch}

-- a batch has the numbers of these calls
pub record Counts (batch : OpenBatch) (held : List Spelled) : Type 0 where
  pub calls : batch.calls ≡ length held
  pub slots : batch.slots ≡ slots_used held

-- what ended, by its numbers, and by its calls
abbrev pub SameEnds : List BatchEnd → List (List Spelled) → Type 0
SameEnds ends batches = map lengths_of ends ≡ map measured batches

pub SameEnds-append : (ends more : List BatchEnd) (batches others : List (List Spelled)) → SameEnds ends batches → SameEnds more others → SameEnds (ends ++ more) (batches ++ others)
SameEnds-append ends more batches others one two =
    map-append lengths_of ends more
    ∙ ap (λ (l : List (ℕ × ℕ)). l ++ map lengths_of more) one
    ∙ ap (λ (l : List (ℕ × ℕ)). map measured batches ++ l) two
    ∙ sym (map-append measured batches others)

-- the numbers of a batch as a pair
abbrev pair_of : OpenBatch → ℕ × ℕ
pair_of batch = (batch.calls, batch.slots)

pair_of-counts : (batch : OpenBatch) (calls : List Spelled) → Counts batch calls → pair_of batch ≡ measured calls
pair_of-counts batch calls counts =
    ap (λ (n : ℕ). let pair : ℕ × ℕ = (n, batch.slots) in pair) counts.calls ∙ ap (λ (n : ℕ). let pair : ℕ × ℕ = (length calls, n) in pair) counts.slots

-- the end of a batch, by whether it has calls
abbrev end_by : Bool → OpenBatch → Why → Option BatchEnd
end_by empty batch why = cond empty None (Some (record { number = batch.number; calls = batch.calls; slots = batch.slots; why = why }))

abbrev behind_by : Bool → OpenBatch → OpenBatch
behind_by empty batch = cond empty batch (record { number = batch.number + 1; calls = 0; slots = 0 })

some_calls : (batch : OpenBatch) (call : Spelled) (calls : List Spelled) → Counts batch (call ∷ calls) → eqb batch.calls 0 ≡ false
some_calls batch call calls counts = ne_eqb batch.calls 0 (λ is. absurd (omega (arith, counts.calls)))

no_calls : (batch : OpenBatch) → Counts batch [] → eqb batch.calls 0 ≡ true
no_calls batch counts = ap (λ (n : ℕ). eqb n 0) counts.calls

-- a batch ends where its calls do
pub SameEnds-end : (batch : OpenBatch) (calls : List Spelled) (why : Why) → Counts batch calls → SameEnds (listed (end_of_batch batch why)) (batch_unless_empty calls)
SameEnds-end batch [] why counts = ap (λ (b : Bool). map lengths_of (listed (end_by b batch why))) (no_calls batch counts)
SameEnds-end batch (call ∷ calls) why counts =
    ap (λ (b : Bool). map lengths_of (listed (end_by b batch why))) (some_calls batch call calls counts)
    ∙ ap (λ (pair : ℕ × ℕ). let l : List (ℕ × ℕ) = pair ∷ [] in l) (pair_of-counts batch (call ∷ calls) counts)

subst_behind : (batch : OpenBatch) (empty : Bool) → empty ≡ eqb batch.calls 0 → Counts (behind_by empty batch) [] → Counts (behind_end batch) []
subst_behind batch empty is counts = subst (λ (b : Bool). Counts (behind_by b batch) []) is counts

-- and behind it none are open
pub Counts-behind : (batch : OpenBatch) (calls : List Spelled) → Counts batch calls → Counts (behind_end batch) []
Counts-behind batch [] counts = subst_behind batch true (sym (no_calls batch counts)) counts
Counts-behind batch (call ∷ calls) counts = subst_behind batch false (sym (some_calls batch call calls counts)) (record { calls = refl; slots = sym slots_used-nil })

-- a batch with a call more
Counts-push : (batch : OpenBatch) (calls : List Spelled) (call : Spelled) (slots : ℕ) → slots ≡ slots_of call → Counts batch calls → Counts (with_call batch slots) (calls ++ call ∷ [])
Counts-push batch calls call slots same counts = record {
  calls = omega (arith, counts.calls, length-append calls (call ∷ []));
  slots = omega (arith, same, counts.slots, slots_used-append calls (call ∷ []), slots_used-one call);
}

module _ (size : ℕ) (batch : OpenBatch) (calls : List Spelled) (call : Spelled) (slots : ℕ) (same : slots ≡ slots_of call) (counts : Counts batch calls) where
  -- a call fits behind the numbers where it fits behind the calls
  same_fit : fits size batch slots ≡ fits_behind size calls call
  unfolding fits_behind
  same_fit = ap (λ (n : ℕ). nat_le (n + slots) size) counts.slots ∙ ap (λ (n : ℕ). nat_le (slots_used calls + n) size) same

  joined_by : (fit : Bool) → fits_behind size calls call ≡ fit → Counts (with_call (cond fit batch (behind_end batch)) slots) (joined size calls call ++ call ∷ [])
  unfolding joined
  joined_by true is = subst (λ (b : Bool). Counts (with_call batch slots) (cond b calls [] ++ call ∷ [])) (sym is) (Counts-push batch calls call slots same counts)
  joined_by false is = subst (λ (b : Bool). Counts (with_call (behind_end batch) slots) (cond b calls [] ++ call ∷ [])) (sym is) (Counts-push (behind_end batch) [] call slots same (Counts-behind batch calls counts))

  -- what a deferred call joins
  Counts-joined : Counts (with_class Defer size batch slots) (joined size calls call ++ call ∷ [])
  Counts-joined = subst (λ (b : Bool). Counts (with_call (cond b batch (behind_end batch)) slots) (joined size calls call ++ call ∷ [])) (sym same_fit) (joined_by (fits_behind size calls call) refl)

  cut_by : (fit : Bool) → fits_behind size calls call ≡ fit → SameEnds (listed (cond fit None (end_of_batch batch Full))) (cut_before size calls call)
  unfolding cut_before
  cut_by true is = ap (λ (b : Bool). map measured (cond b [] (batch_unless_empty calls))) (sym is)
  cut_by false is = subst (λ (b : Bool). SameEnds (listed (end_of_batch batch Full)) (cond b [] (batch_unless_empty calls))) (sym is) (SameEnds-end batch calls Full counts)

  -- what ends before it
  SameEnds-cut : SameEnds (listed (ended_before Defer size batch slots)) (cut_before size calls call)
  SameEnds-cut = subst (λ (b : Bool). SameEnds (listed (cond b None (end_of_batch batch Full))) (cut_before size calls call)) (sym same_fit) (cut_by (fits_behind size calls call) refl)

  -- a batch with a call behind others is a batch
  unless_empty-push : (others : List Spelled) → batch_unless_empty (others ++ call ∷ []) ≡ (others ++ call ∷ []) ∷ []
  unless_empty-push [] = refl
  unless_empty-push (first ∷ others) = refl

  module _ (gl : Call) (is_call : gl ≡ call.call) where
    -- the batch that ends with it
    sent_by : (sends : Bool) → is_flush call.call ≡ sends
        → SameEnds (listed (cond sends (end_of_batch (with_class Defer size batch slots) Sent) None)) (cond sends ((joined size calls call ++ call ∷ []) ∷ []) [])
    sent_by false is = refl
    sent_by true is =
        SameEnds-end (with_class Defer size batch slots) (joined size calls call ++ call ∷ []) Sent Counts-joined
        ∙ ap (λ (l : List (List Spelled)). map measured l) (unless_empty-push (joined size calls call))

    same_flush : is_flush gl ≡ is_flush call.call
    same_flush = ap is_flush is_call

    SameEnds-sent : SameEnds (listed (ended_with Defer gl (with_class Defer size batch slots))) (cond (is_flush call.call) ((joined size calls call ++ call ∷ []) ∷ []) [])
    SameEnds-sent =
        subst (λ (b : Bool). SameEnds (listed (cond b (end_of_batch (with_class Defer size batch slots) Sent) None)) (cond (is_flush call.call) ((joined size calls call ++ call ∷ []) ∷ []) []))
        (sym same_flush) (sent_by (is_flush call.call) refl)

    -- what ends at a call of this class
    pub SameEnds-call : (class : Class) → SameEnds (listed (ended_before class size batch slots) ++ listed (ended_with class gl (with_class class size batch slots))) (ended_by class size calls call)
    SameEnds-call Answer = refl
    SameEnds-call Sync =
        SameEnds-append (listed (end_of_batch batch Waits)) [] (batch_unless_empty calls) [] (SameEnds-end batch calls Waits counts) refl
        ∙ ap (λ (l : List (List Spelled)). map measured l) (append-nil (batch_unless_empty calls))
    SameEnds-call Defer =
        SameEnds-append (listed (ended_before Defer size batch slots)) (listed (ended_with Defer gl (with_class Defer size batch slots))) (cut_before size calls call) (cond (is_flush call.call) ((joined size calls call ++ call ∷ []) ∷ []) [])
        SameEnds-cut SameEnds-sent

    behind_by_flush : (sends : Bool) → is_flush call.call ≡ sends
        → Counts (cond sends (behind_end (with_class Defer size batch slots)) (with_class Defer size batch slots)) (cond sends [] (joined size calls call ++ call ∷ []))
    behind_by_flush true is = Counts-behind (with_class Defer size batch slots) (joined size calls call ++ call ∷ []) Counts-joined
    behind_by_flush false is = Counts-joined

    -- what is open behind it
    pub Counts-call : (class : Class) → Counts (batch_behind class gl (with_class class size batch slots)) (open_by class size calls call)
    Counts-call Answer = counts
    Counts-call Sync = Counts-behind batch calls counts
    Counts-call Defer =
        subst (λ (b : Bool). Counts (cond b (behind_end (with_class Defer size batch slots)) (with_class Defer size batch slots)) (open_by Defer size calls call))
        (sym same_flush) (behind_by_flush (is_flush call.call) refl)
