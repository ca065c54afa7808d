-- Numbers split over 65536: a sum of four is split as its parts are.
use Rattle.std.proofs.Common.{◌≡◌, ℕ, ◌+◌, ◌/◌, ℤ, pos, negsuc, ◌+ℤ◌, ◌*ℤ◌, ap, sym, ◌∙◌, arith}
use Rattle.std.specs.Int.{int_div_euclid, int_rem_euclid}
use Rattle.std.proofs.lemmas.Int.{ints}

-- a number is its quotient times 65536, and what is left
pub whole_and_rest : (z : ℤ) → z ≡ pos 65536 *ℤ int_div_euclid z (pos 65536) +ℤ int_rem_euclid z (pos 65536)
whole_and_rest (pos s) = omega (arith, ints)
whole_and_rest (negsuc s) = omega (arith, ints)

-- a number that is so many times 65536 and some more has a quotient of so many and that of the rest
pub quotient_of_parts : (z q : ℤ) (r : ℕ) → z ≡ pos 65536 *ℤ q +ℤ pos r → int_div_euclid z (pos 65536) ≡ q +ℤ pos (r / 65536)
quotient_of_parts (pos s) q r e = omega (arith, ints)
quotient_of_parts (negsuc s) q r e = omega (arith, ints)

-- a number whose quotient and rest are known
pub split_by : (z w : ℤ) (r : ℕ) → w ≡ int_div_euclid z (pos 65536) → pos r ≡ int_rem_euclid z (pos 65536) → z ≡ pos 65536 *ℤ w +ℤ pos r
split_by z w r e f =
    whole_and_rest z ∙ ap (λ (y : ℤ). pos 65536 *ℤ int_div_euclid z (pos 65536) +ℤ y) (sym f) ∙ ap (λ (y : ℤ). pos 65536 *ℤ y +ℤ pos r) (sym e)

-- the quotient of a sum of four numbers whose quotients and rests are known
pub quotient_of_four : (a b c d : ℤ) (wa wb wc wd : ℤ) (ra rb rc rd : ℕ) →
    a ≡ pos 65536 *ℤ wa +ℤ pos ra → b ≡ pos 65536 *ℤ wb +ℤ pos rb → c ≡ pos 65536 *ℤ wc +ℤ pos rc → d ≡ pos 65536 *ℤ wd +ℤ pos rd →
    int_div_euclid (a +ℤ b +ℤ c +ℤ d) (pos 65536) ≡ (wa +ℤ wb +ℤ wc +ℤ wd) +ℤ pos ((ra + rb + rc + rd) / 65536)
quotient_of_four a b c d wa wb wc wd ra rb rc rd e f g h =
    quotient_of_parts (a +ℤ b +ℤ c +ℤ d) (wa +ℤ wb +ℤ wc +ℤ wd) (ra + rb + rc + rd) (omega (arith, ints))
