-- How calls are cut into batches, one call at a time, as equations to rewrite by. 'Fits' is said as `Batch::try_pack` says it.
use Rattle.std.proofs.Common.{◌≡◌, ℕ, ◌+◌, ◌<◌, ◌≤◌, Bool, true, false, cond, List, [], ◌∷◌, ◌++◌, length, refl, ap, zero-add, ◌∙◌, arith}
use Rattle.std.proofs.lemmas.Bool.Decides.{nat_tests}
use Rattle.std.proofs.lemmas.List.{length-append}
use Rattle.std.proofs.lemmas.List.Sums.{sum_by-append}
use Rattle.client_shadow.specs.declared.class.Class.{Class}
use Rattle.client_shadow.specs.declared.class.Class.TheVariants.{Answer, Sync}
use Rattle.batch_pack.specs.Spelling.{Spelled, slots_of}
use Rattle.batch_pack.specs.Batch.{empty_batch, slots_left}
use Rattle.client_shadow.specs.Cutting.{Issued, batch_unless_empty, fits_behind, joined, cut_before, ended_by, open_by, ended_at, open_after, batches_from, is_class, count_of}
use Rattle.batch_pack.proofs.Packings.{slots_used-nil}
use Rattle.batch_pack.proofs.Parsing.{some_slots}

-- one call first: what ends at it, and then the others behind what is open after it
pub batches_from-cons : (size : ℕ) (batch : List Spelled) (call : Issued) (calls : List Issued)
    → batches_from size batch (call ∷ calls) ≡ ended_at size batch call ++ batches_from size (open_after size batch call) calls
unfolding batches_from
batches_from-cons size batch call calls = refl

-- an empty batch has all its slots left
pub slots_left-empty : (size : ℕ) → slots_left (empty_batch size) ≡ size
unfolding slots_left
slots_left-empty size = omega (arith, slots_used-nil)

-- a call that is no longer than a batch fits an empty one
pub fits_empty : (size : ℕ) (call : Spelled) → slots_of call ≤ size → slots_of call ≤ slots_left (empty_batch size)
fits_empty size call short = omega (arith, slots_left-empty size)

-- the count of no calls, of calls one list behind another, and of one
pub count_of-nil : (class : Class) → count_of class [] ≡ 0
unfolding count_of
count_of-nil class = refl

pub count_of-append : (class : Class) (calls more : List Issued) → count_of class (calls ++ more) ≡ count_of class calls + count_of class more
unfolding count_of
count_of-append class calls more = sum_by-append (λ (call : Issued). cond (is_class class call.class) 1 0) calls more

pub count_of-one : (class : Class) (call : Issued) → count_of class (call ∷ []) ≡ cond (is_class class call.class) 1 0
unfolding count_of
count_of-one class call = zero-add (cond (is_class class call.class) 1 0)

-- how many batches, with one call first
pub length-batches_from-cons : (size : ℕ) (batch : List Spelled) (call : Issued) (calls : List Issued)
    → length (batches_from size batch (call ∷ calls)) ≡ length (ended_at size batch call) + length (batches_from size (open_after size batch call) calls)
length-batches_from-cons size batch call calls =
    ap length (batches_from-cons size batch call calls) ∙ length-append (ended_at size batch call) (batches_from size (open_after size batch call) calls)

module _ (size : ℕ) (batch : List Spelled) (call : Spelled) where
  fits_behind-fits : slots_of call ≤ slots_left (record { size = size; calls = batch }) → fits_behind size batch call ≡ true
  unfolding fits_behind slots_left
  fits_behind-fits fits =
      let some = some_slots call in
      grind (arith, nat_tests)

  fits_behind-full : slots_left (record { size = size; calls = batch }) < slots_of call → fits_behind size batch call ≡ false
  unfolding fits_behind slots_left
  fits_behind-full full = grind (arith, nat_tests)

  -- what ends before a deferred call, and what it joins
  pub cut_before-fits : slots_of call ≤ slots_left (record { size = size; calls = batch }) → cut_before size batch call ≡ []
  unfolding cut_before
  cut_before-fits fits = ap (λ (b : Bool). cond b [] (batch_unless_empty batch)) (fits_behind-fits fits)

  pub cut_before-full : slots_left (record { size = size; calls = batch }) < slots_of call → cut_before size batch call ≡ batch_unless_empty batch
  unfolding cut_before
  cut_before-full full = ap (λ (b : Bool). cond b [] (batch_unless_empty batch)) (fits_behind-full full)

  pub joined-fits : slots_of call ≤ slots_left (record { size = size; calls = batch }) → joined size batch call ≡ batch
  unfolding joined
  joined-fits fits = ap (λ (b : Bool). cond b batch []) (fits_behind-fits fits)

  pub joined-full : slots_left (record { size = size; calls = batch }) < slots_of call → joined size batch call ≡ []
  unfolding joined
  joined-full full = ap (λ (b : Bool). cond b batch []) (fits_behind-full full)

module _ (size : ℕ) (batch : List Spelled) (call : Issued) where
  -- a call that is answered ends no batch and joins none
  pub ended_at-answer : call.class ≡ Answer → ended_at size batch call ≡ []
  unfolding ended_at
  ended_at-answer class = ap (λ (k : Class). ended_by k size batch call.spelled) class

  pub open_after-answer : call.class ≡ Answer → open_after size batch call ≡ batch
  unfolding open_after
  open_after-answer class = ap (λ (k : Class). open_by k size batch call.spelled) class

  -- before a Sync call the open batch ends, and none is open after it
  pub ended_at-sync : call.class ≡ Sync → ended_at size batch call ≡ batch_unless_empty batch
  unfolding ended_at
  ended_at-sync class = ap (λ (k : Class). ended_by k size batch call.spelled) class

  pub open_after-sync : call.class ≡ Sync → open_after size batch call ≡ []
  unfolding open_after
  open_after-sync class = ap (λ (k : Class). open_by k size batch call.spelled) class
