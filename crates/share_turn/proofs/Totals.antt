-- Sums over a list whose elements are named by their places.
use Rattle.std.proofs.Common.{◌≡◌, ℕ, zero, suc, ◌+◌, ◌<◌, ◌≤◌, ◌≢◌, List, [], ◌∷◌, length, set, refl, sym, ◌∙◌, ap, arith}
use Rattle.std.specs.List.{sum_by}
use Rattle.std.proofs.lemmas.List.Sums.{sum_by-cons}
use mathlib.Core.Logic.{dite}
use native.Mathlib.Decide.{ℕ_discrete}
use mathlib.Core.Option.{some, some-injective, some-ne-none}
use lib.ListN.{get_elem?}

module _ {A : Type 0} where
  -- a place with an element lies within the list
  pub place_within : (l : List A) (i : ℕ) (v : A) → get_elem? l i ≡ some v → i < length l
  place_within [] i v e = absurd (some-ne-none v (sym e))
  place_within (x ∷ xs) zero v e = omega arith
  place_within (x ∷ xs) (suc i) v e = omega (arith, place_within xs i v e)

  -- two elements at one place are one
  pub one_at_place : (l : List A) (i : ℕ) (v w : A) → get_elem? l i ≡ some v → get_elem? l i ≡ some w → v ≡ w
  one_at_place l i v w a b = some-injective v w (sym a ∙ b)

module _ {A : Type 0} (f : A → ℕ) where
  -- the sum after one element is replaced
  pub sum_by-set_at : (l : List A) (i : ℕ) (v w : A) → get_elem? l i ≡ some v → sum_by f (set l i w) + f v ≡ sum_by f l + f w
  sum_by-set_at [] i v w e = absurd (some-ne-none v (sym e))
  sum_by-set_at (x ∷ xs) zero v w e = let same : f x ≡ f v = ap f (some-injective x v e) in omega (arith, sum_by-cons f w xs, sum_by-cons f x xs, same)
  sum_by-set_at (x ∷ xs) (suc i) v w e = omega (arith, sum_by-cons f x (set xs i w), sum_by-cons f x xs, sum_by-set_at xs i v w e)

  -- one term is at most the sum
  pub one_term_within : (l : List A) (i : ℕ) (v : A) → get_elem? l i ≡ some v → f v ≤ sum_by f l
  one_term_within [] i v e = absurd (some-ne-none v (sym e))
  one_term_within (x ∷ xs) zero v e = let same : f x ≡ f v = ap f (some-injective x v e) in omega (arith, sum_by-cons f x xs, same)
  one_term_within (x ∷ xs) (suc i) v e = omega (arith, sum_by-cons f x xs, one_term_within xs i v e)

  -- two terms at different places are together at most the sum
  pub two_terms_within : (l : List A) (i j : ℕ) (v w : A) → i ≢ j → get_elem? l i ≡ some v → get_elem? l j ≡ some w → f v + f w ≤ sum_by f l
  two_terms_within [] i j v w ne a b = absurd (some-ne-none v (sym a))
  two_terms_within (x ∷ xs) zero zero v w ne a b = absurd (ne refl)
  two_terms_within (x ∷ xs) zero (suc j) v w ne a b = let same : f x ≡ f v = ap f (some-injective x v a) in omega (arith, sum_by-cons f x xs, same, one_term_within xs j w b)
  two_terms_within (x ∷ xs) (suc i) zero v w ne a b = let same : f x ≡ f w = ap f (some-injective x w b) in omega (arith, sum_by-cons f x xs, same, one_term_within xs i v a)
  two_terms_within (x ∷ xs) (suc i) (suc j) v w ne a b = omega (arith, sum_by-cons f x xs, two_terms_within xs i j v w (λ e. ne (ap suc e)) a b)

  -- a sum above 0 has a term above 0
  pub some_term : (l : List A) → 0 < sum_by f l → (i : ℕ) × (v : A) × (get_elem? l i ≡ some v) × (0 < f v)
  some_term [] more = absurd (omega arith)
  some_term (x ∷ xs) more = dite (ℕ_discrete (f x) 0)
      (λ none. let later = some_term xs (omega (arith, sum_by-cons f x xs, none)) in (suc later.0, later.1, later.2, later.3))
      (λ here. let pos : f x ≢ 0 = here in (zero, x, refl, omega arith))
