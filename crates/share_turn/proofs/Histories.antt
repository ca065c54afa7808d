-- Histories that go on, and the parts that fit them.
use Rattle.std.proofs.Common.{◌≡◌, ℕ, ◌+◌, ◌≢◌, eqb, eq-eqb, ne_eqb, cond, true, false, List, [], ◌∷◌, ◌++◌, sym, refl, ap, ◌∙◌, append_assoc, append-nil, arith}
use Rattle.std.specs.Prelude.{All, count_by}
use Rattle.std.proofs.lemmas.List.Elements.{filter-append, All-nil, All-cons, All-head, All-tail}
use Rattle.std.proofs.lemmas.List.Sums.{sum_by-cons}
use Rattle.share_turn.specs.declared.view.Part.{Part}
use Rattle.std.proofs.lemmas.List.{append_cancel_left}
use Rattle.share_turn.specs.Annals.{entries_of, GoesOnBy}
use Rattle.share_turn.specs.View.{bears, Fits}

module _ {E : Type 0} (number : E → ℕ) where
  -- entries of the number k are all of its own
  pub entries_of-own : (k : ℕ) (added : List E) → All (λ e. number e ≡ k) added → entries_of number k added ≡ added
  entries_of-own k [] all = refl
  entries_of-own k (e ∷ es) all =
      let is : (eqb (number e) k) ≡ true = eq-eqb (number e) k (All-head (λ x. number x ≡ k) e es all) in
      ap (λ b. cond b (e ∷ entries_of number k es) (entries_of number k es)) is ∙ ap (λ l. e ∷ l) (entries_of-own k es (All-tail (λ x. number x ≡ k) e es all))

  -- and none of another's
  pub entries_of-other : (k n : ℕ) (added : List E) → n ≢ k → All (λ e. number e ≡ k) added → entries_of number n added ≡ []
  entries_of-other k n [] ne all = refl
  entries_of-other k n (e ∷ es) ne all =
      let not_n : (eqb (number e) n) ≡ false = ne_eqb (number e) n (λ is. ne (sym is ∙ All-head (λ x. number x ≡ k) e es all)) in
      ap (λ b. cond b (e ∷ entries_of number n es) (entries_of number n es)) not_n ∙ entries_of-other k n es ne (All-tail (λ x. number x ≡ k) e es all)

  -- a part of another number fits the history that goes on
  pub fits_longer : (k : ℕ) (history added : List E) (p : Part E) → p.number ≢ k → All (λ e. number e ≡ k) added → Fits number history p → Fits number (history ++ added) p
  fits_longer k history added p ne all fits = record {
    own_entries = fits.own_entries ∙ (sym (append-nil (entries_of number p.number history)) ∙ (ap (λ l. entries_of number p.number history ++ l) (sym (entries_of-other k p.number added ne all)) ∙ sym (filter-append (λ e. eqb (number e) p.number) history added)));
    begins = (fits.begins.0 ++ added, sym (append_assoc p.seen fits.begins.0 added) ∙ ap (λ l. l ++ added) fits.begins.1);
  }

  -- where no part has the number k, each fits the history that goes on by entries of k
  pub all_fit_longer : (k : ℕ) (history added : List E) → All (λ e. number e ≡ k) added → (ps : List (Part E)) → count_by (bears k) ps ≡ 0 → All (Fits number history) ps → All (Fits number (history ++ added)) ps
  all_fit_longer k history added all [] none fit = All-nil (Fits number (history ++ added))
  all_fit_longer k history added all (p ∷ ps) none fit =
      let here : ℕ = cond (eqb p.number k) 1 0 in let later : ℕ = count_by (bears k) ps in
      let sum : here + later ≡ 0 = sym (sum_by-cons (λ q. cond (bears k q) 1 0) p ps) ∙ none in
      let other : p.number ≢ k = λ is. let one : here ≡ 1 = ap (λ b. cond b 1 0) (eq-eqb p.number k is) in omega arith in
      All-cons (Fits number (history ++ added)) p ps (fits_longer k history added p other all (All-head (Fits number history) p ps fit))
      (all_fit_longer k history added all ps (omega arith) (All-tail (Fits number history) p ps fit))

  -- entries of k at the end of a history stand at the end of those of k
  pub entries_of-longer : (k : ℕ) (whole mine seen added : List E) (more : GoesOnBy number k seen whole) → mine ≡ entries_of number k seen → whole ≡ seen ++ added → entries_of number k whole ≡ mine ++ added
  entries_of-longer k whole mine seen added more is_own longer =
      let same : more.0 ≡ added = append_cancel_left seen more.0 added (sym more.1 ∙ longer) in
      ap (entries_of number k) longer ∙ (filter-append (λ e. eqb (number e) k) seen added
      ∙ ((λ i. sym is_own i ++ entries_of number k (sym same i)) ∙ ap (λ l. mine ++ l) (entries_of-own k more.0 more.2 ∙ same)))
