-- Histories: lists of entries, the oldest first, each made by the seat of its number.
use Rattle.std.specs.Prelude.{◌≡◌, ℕ, ◌<◌, ◌==◌, List, ◌++◌, filter, All}

module _ {E : Type 0} (number : E → ℕ) where
  -- the entries of the number k, in their order; own
  abbrev pub entries_of : ℕ → List E → List E
  entries_of k history = filter (λ e. number e == k) history

  -- every entry's number is below n; own
  abbrev pub IsNumberedBelow : ℕ → List E → Type 0
  IsNumberedBelow n history = All (λ e. number e < n) history

  -- a history goes on by entries of the number k and no others; own
  abbrev pub GoesOnBy : ℕ → List E → List E → Type 0
  GoesOnBy k before after = (added : List E) × (after ≡ before ++ added) × All (λ e. number e ≡ k) added
