-- Batches that are kept in slots, as they are given one after another.
use Rattle.std.proofs.Common.{◌≡◌, ℕ, zero, suc, ◌-◌, ◌<◌, List, [], ◌∷◌, take, drop, length, refl, ap, subst, ◌∙◌, arith, sub-one}
use Rattle.batch_pack.specs.Decoding.{calls_in}
use Rattle.batch_rail.specs.declared.stretch.Stretch.{Stretch}
use Rattle.batch_rail.specs.Journal.{TakesFirst}
use Rattle.batch_rail.specs.Kept.{batches_in, AreBatches, counts_of, slots_after}

-- the first batch has the first slots
TakesFirst-first : (slots counts more : List ℕ) (count : ℕ) → counts ≡ count ∷ more → AreBatches slots counts → TakesFirst (batches_in slots counts) (batches_in (drop count slots) more) (take count slots)
unfolding batches_in
TakesFirst-first slots counts more count first kept =
    let parts = subst (AreBatches slots) first kept in
    record {
      calls = calls_in (take count slots);
      have = parts.1.have;
      spelled = parts.1.spelled;
      first = ap (batches_in slots) first;
    }

-- one batch without slots fewer
counts_after-less : (first : ℕ) (stretches : List Stretch) (behind : ℕ) → 0 < first → slots_after first stretches behind ≡ 0 ∷ slots_after (first - 1) stretches behind
counts_after-less zero stretches behind some = absurd (omega arith)
counts_after-less (suc first) [] behind some = rw sub-one refl
counts_after-less (suc first) (stretch ∷ stretches) behind some = rw sub-one refl

-- none is left
pub batches_in-end : (slots : List ℕ) (first : ℕ) (stretches : List Stretch) (behind : ℕ) → first ≡ 0 → length stretches ≡ 0 → batches_in slots (slots_after first stretches behind) ≡ []
unfolding batches_in
batches_in-end slots first [] behind none is = ap (λ (n : ℕ). batches_in slots (slots_after n [] behind)) none
batches_in-end slots first (stretch ∷ stretches) behind none is = absurd (omega arith)

module _ (slots : List ℕ) (first : ℕ) (stretches : List Stretch) (behind : ℕ) (kept : AreBatches slots (slots_after first stretches behind)) where
  -- a batch without slots is given
  pub TakesFirst-empty : 0 < first → TakesFirst (batches_in slots (slots_after first stretches behind)) (batches_in slots (slots_after (first - 1) stretches behind)) []
  TakesFirst-empty some =
      TakesFirst-first slots (slots_after first stretches behind) (slots_after (first - 1) stretches behind) 0 (counts_after-less first stretches behind some) kept

  -- a batch with slots is given
  pub TakesFirst-stretch : (stretch : Stretch) (others : List Stretch) → first ≡ 0 → stretches ≡ stretch ∷ others
      → TakesFirst (batches_in slots (slots_after first stretches behind)) (batches_in (drop stretch.slots slots) (counts_of others behind)) (take stretch.slots slots)
  TakesFirst-stretch stretch others none is =
      TakesFirst-first slots (slots_after first stretches behind) (counts_of others behind) stretch.slots
      (ap (λ (n : ℕ). slots_after n stretches behind) none ∙ ap (λ (ss : List Stretch). slots_after 0 ss behind) is) kept
