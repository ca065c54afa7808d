-- Lists of numbers are equal where their numbers are.
use Rattle.std.proofs.Common.{◌≡◌, ℤ, List, ◌∷◌}

pub cons_four : {a b c d p q r s : ℤ} {xs ys : List ℤ} → a ≡ p → b ≡ q → c ≡ r → d ≡ s → xs ≡ ys → a ∷ b ∷ c ∷ d ∷ xs ≡ p ∷ q ∷ r ∷ s ∷ ys
cons_four e f g h t = cc
