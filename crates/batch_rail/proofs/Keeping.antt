-- Batches that are kept in slots: their slots, and one batch more.
use Rattle.std.proofs.Common.{◌≡◌, ℕ, ◌+◌, ◌≤◌, ◌<◌, List, [], ◌∷◌, ◌++◌, Some, None, Bool, true, if◌then◌else◌, take, drop, length, replicate, refl, sym, ap, subst, ◌∙◌, arith, append_assoc}
use Rattle.std.proofs.lemmas.List.{take-append-le, drop-append-le, take_all, drop_all, length-append, length-take-le, length-drop, replicate_more}
use Rattle.std.proofs.lemmas.List.Sums.{sum_by-cons}
use Rattle.std.proofs.lemmas.Bool.Decides.{nat_tests}
use Rattle.batch_pack.specs.Spelling.{Spelled, spellings_of, HaveSpellings}
use Rattle.batch_pack.specs.Batch.{slots_used}
use Rattle.batch_pack.specs.Decoding.{calls_in}
use Rattle.batch_pack.specs.Holding.{AreReadable}
use Rattle.batch_pack.proofs.Spellings.{calls_in-spelled, AreReadable-spelled}
use Rattle.batch_rail.specs.declared.stretch.Stretch.{Stretch}
use Rattle.batch_rail.specs.Journal.{slots_in, told_within, told_with}
use Rattle.batch_rail.proofs.Journals.{slots_in-push}
use Rattle.batch_rail.specs.Kept.{batches_in, AreBatches, counts_of}

module _ (more : List ℕ) (calls : List Spelled) (have : HaveSpellings calls) (spelled : more ≡ spellings_of calls) where
  whole : take (length more) more ≡ more
  whole = take_all (length more) more (omega arith)

  -- the batches of slots with those of one batch more behind them are these batches and that one
  pub batches_in-push : (slots counts : List ℕ) → AreBatches slots counts → batches_in (slots ++ more) (counts ++ length more ∷ []) ≡ batches_in slots counts ++ calls ∷ []
  unfolding batches_in
  batches_in-push slots [] none =
      ap (λ (s : List ℕ). calls_in (take (length more) (s ++ more)) ∷ []) none
      ∙ ap (λ (s : List ℕ). calls_in s ∷ []) whole
      ∙ ap (λ (c : List Spelled). c ∷ []) (calls_in-spelled more calls have spelled)
  batches_in-push slots (count ∷ counts) (within, readable, others) =
      ap (λ (s : List ℕ). calls_in s ∷ batches_in (drop count (slots ++ more)) (counts ++ length more ∷ [])) (take-append-le count slots more within)
      ∙ ap (λ (s : List ℕ). calls_in (take count slots) ∷ batches_in s (counts ++ length more ∷ [])) (drop-append-le count slots more within)
      ∙ ap (λ (bs : List (List Spelled)). calls_in (take count slots) ∷ bs) (batches_in-push (drop count slots) counts others)

  -- and all can be read
  pub AreBatches-push : (slots counts : List ℕ) → AreBatches slots counts → AreBatches (slots ++ more) (counts ++ length more ∷ [])
  AreBatches-push slots [] none =
      let same : slots ++ more ≡ more = ap (λ (s : List ℕ). s ++ more) none in
      subst (λ (s : List ℕ). AreBatches s (length more ∷ [])) (sym same)
      (omega arith, subst AreReadable (sym whole) (AreReadable-spelled more calls have spelled), drop_all (length more) more (omega arith))
  AreBatches-push slots (count ∷ counts) (within, readable, others) = (
    omega (arith, length-append slots more),
    subst AreReadable (sym (take-append-le count slots more within)) readable,
    subst (λ (s : List ℕ). AreBatches s (counts ++ length more ∷ [])) (sym (drop-append-le count slots more within)) (AreBatches-push (drop count slots) counts others),
  )

-- one batch without slots more
pub counts_of-suc : (stretches : List Stretch) (empty : ℕ) → counts_of stretches (empty + 1) ≡ counts_of stretches empty ++ 0 ∷ []
counts_of-suc [] empty = sym (replicate_more empty 0)
counts_of-suc (stretch ∷ stretches) empty =
    ap (λ (counts : List ℕ). replicate stretch.empty 0 ++ stretch.slots ∷ counts) (counts_of-suc stretches empty)
    ∙ sym (append_assoc (replicate stretch.empty 0) (stretch.slots ∷ counts_of stretches empty) (0 ∷ []))

-- one batch with slots more
pub counts_of-push : (stretches : List Stretch) (stretch : Stretch) → counts_of (stretches ++ stretch ∷ []) 0 ≡ counts_of stretches stretch.empty ++ stretch.slots ∷ []
counts_of-push [] stretch = refl
counts_of-push (first ∷ stretches) stretch =
    ap (λ (counts : List ℕ). replicate first.empty 0 ++ first.slots ∷ counts) (counts_of-push stretches stretch)
    ∙ sym (append_assoc (replicate first.empty 0) (first.slots ∷ counts_of stretches stretch.empty) (stretch.slots ∷ []))

-- batches have all slots together
pub slots_in-batches_in : (slots counts : List ℕ) → AreBatches slots counts → slots_in (batches_in slots counts) ≡ length slots
unfolding slots_in batches_in slots_used
slots_in-batches_in slots [] none = sym (ap length none)
slots_in-batches_in slots (count ∷ counts) (within, readable, others) =
    let first : slots_used (calls_in (take count slots)) ≡ count = sym (ap length readable.spelled) ∙ length-take-le count slots within in
    omega (arith, first, sum_by-cons slots_used (calls_in (take count slots)) (batches_in (drop count slots) counts), slots_in-batches_in (drop count slots) counts others, length-drop count slots)

-- slots and counts of batches, and those with one batch of these slots more
module _ (slots counts more : List ℕ) (batch : List Spelled) (have : HaveSpellings batch) (spelled : more ≡ spellings_of batch) (kept : AreBatches slots counts) where
  together : slots_in (batches_in slots counts ++ batch ∷ []) ≡ length slots + length more
  unfolding slots_used
  together = slots_in-push (batches_in slots counts) batch ∙ ap (λ (n : ℕ). n + slots_used batch) (slots_in-batches_in slots counts kept) ∙ ap (λ (s : List ℕ). length slots + length s) (sym spelled)

  told_with-fits : (room : ℕ) → length slots + length more ≤ room → told_with room (Some (batches_in slots counts)) batch ≡ Some (batches_in slots counts ++ batch ∷ [])
  unfolding told_within
  told_with-fits room fits = let sum = together in grind (arith, nat_tests)

  -- one that doesn't fit ends the telling
  pub told_with-past : (room : ℕ) (whole : Bool) → whole ≡ true → room < length slots + length more
      → None ≡ told_with room (if whole then Some (batches_in slots counts) else None) batch
  unfolding told_within
  told_with-past room whole is past = let sum = together in rw is (grind (arith, nat_tests))

  module _ (new_slots new_counts : List ℕ) (slots_are : new_slots ≡ slots ++ more) (counts_are : new_counts ≡ counts ++ length more ∷ []) where
    pub AreBatches-kept : AreBatches new_slots new_counts
    AreBatches-kept = rw (slots_are, counts_are) (AreBatches-push more batch have spelled slots counts kept)

    -- one that fits is told
    pub told_with-kept : (room : ℕ) (whole : Bool) → whole ≡ true → length slots + length more ≤ room
        → (if whole then Some (batches_in new_slots new_counts) else None) ≡ told_with room (if whole then Some (batches_in slots counts) else None) batch
    told_with-kept room whole is fits =
        rw (is, slots_are, counts_are) (ap Some (batches_in-push more batch have spelled slots counts kept) ∙ sym (told_with-fits room fits))
