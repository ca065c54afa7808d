-- A change along a row, for the crates above: that of its first place, and then that of the others.
use Rattle.std.proofs.Common.{◌≡◌, ℕ, suc, ℤ, pos, negsuc, ◌+ℤ◌, Bool, true, false, ◌&&◌, cond, refl, ap, ◌∙◌, arith}
use Rattle.std.specs.Prelude.{int_le, int_lt}
use Rattle.std.proofs.lemmas.Bool.{and_left}
use Rattle.std.proofs.lemmas.Bool.Decides.{nat_tests}
use Rattle.std.proofs.lemmas.Int.{ints}
use Rattle.fragment_ops.specs.declared.cell.Cell.{Cell}
use Rattle.fragment_ops.specs.declared.place.Place.{Place}
use Rattle.fragment_ops.specs.Cell.{is_within}
use Rattle.fragment_ops.specs.Frame.{is_among, is_at, only_among, only_at}

-- a column is one of so many from x on
abbrev is_across : ℤ → ℕ → Place → Bool
is_across x count place = int_le x (pos place.column) && int_lt (pos place.column) (x +ℤ pos count)

-- a place lies in row y
abbrev is_upwards : ℤ → Place → Bool
is_upwards y place = int_le y (pos place.row) && int_lt (pos place.row) (y +ℤ pos 1)

is_at-among : (x y : ℤ) (place : Place) → is_at x y place ≡ (is_across x 1 place && is_upwards y place)
unfolding is_at
is_at-among (negsuc n) y place = grind (arith, ints)
is_at-among (pos column) (negsuc n) place = grind (arith, ints)
is_at-among (pos column) (pos row) place = grind (arith, ints, nat_tests)

-- a change of a cell by whether its row is the run's, and its column is the first, one of the others, and one of all
in_turn : (change : Cell → Cell) (old : Cell) (upwards first others all : Bool) → (first ≡ true → others ≡ false) → (first ≡ true → all ≡ true) → (first ≡ false → others ≡ all)
    → cond (others && upwards) (change (cond (first && upwards) (change old) old)) (cond (first && upwards) (change old) old) ≡ cond (all && upwards) (change old) old
in_turn change old upwards true true all beside among same = let both = beside refl in cc
in_turn change old upwards true false false beside among same = let none = among refl in cc
in_turn change old upwards true false true beside among same = refl
in_turn change old upwards false others all beside among same = ap (λ (t : Bool). cond (t && upwards) (change old) old) (same refl)

module _ (x : ℤ) (count : ℕ) (place : Place) where
  beside : is_across x 1 place ≡ true → is_across (x +ℤ pos 1) count place ≡ false
  beside first = grind (arith, ints)

  among : is_across x 1 place ≡ true → is_across x (suc count) place ≡ true
  among first = grind (arith, ints)

  same : is_across x 1 place ≡ false → is_across (x +ℤ pos 1) count place ≡ is_across x (suc count) place
  same other = grind (arith, ints)

module _ (x y : ℤ) (change : Place → Cell → Cell) (place : Place) (old : Cell) where
  -- no place
  pub only_among-none : only_among x y 0 change place old ≡ old
  unfolding only_among is_among is_within
  only_among-none =
      let none : is_across x 0 place ≡ false = grind (arith, ints) in
      ap (λ (t : Bool). cond t (change place old) old) (and_left (is_across x 0 place) (is_upwards y place) none)

  -- the first place, and then the others
  pub only_among-more : (count : ℕ) → only_among (x +ℤ pos 1) y count change place (only_at x y change place old) ≡ only_among x y (suc count) change place old
  unfolding only_among only_at is_among is_within
  only_among-more count =
      ap (λ (t : Bool). only_among (x +ℤ pos 1) y count change place (cond t (change place old) old)) (is_at-among x y place)
      ∙ in_turn (change place) old (is_upwards y place) (is_across x 1 place) (is_across (x +ℤ pos 1) count place) (is_across x (suc count) place)
      (beside x count place) (among x count place) (same x count place)
