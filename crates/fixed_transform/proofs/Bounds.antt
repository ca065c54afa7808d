-- How far from zero products and quotients lie, and that numbers so bounded keep their value in their type.
use Rattle.std.proofs.Common.{◌≡◌, ℕ, suc, ◌+◌, ◌*◌, ◌/◌, ◌<◌, ◌≤◌, ℤ, pos, negsuc, ◌*ℤ◌, sym, subst, ap, ◌∙◌, arith}
use Rattle.std.specs.Int.{int_div_euclid}
use Rattle.std.proofs.lemmas.Int.{unsigned_abs-mul}
use Rattle.std.proofs.lemmas.Nat.{div_below, mul-le}
use Rattle.fixed_transform.specs.Fixed.{IsWithin, floor, quotient_of}

pub within_product : {m n : ℕ} {a b : ℤ} → IsWithin m a → IsWithin n b → IsWithin (m * n) (a *ℤ b)
within_product {m} {n} {a} {b} p q =
    record { within = subst (λ (k : ℕ). k ≤ m * n) (sym (unsigned_abs-mul a b)) (mul-le _ _ _ _ p.within q.within) }

-- a quotient that is rounded down lies within the bound of the dividend over the divisor
pub quotient_within : (m n : ℕ) (s : ℤ) → 0 < n → IsWithin (m * n) s → IsWithin m (int_div_euclid s (pos n))
quotient_within m n (pos s) some p =
    let bound : s ≤ m * n = p.within in
    let low : s / n < m + 1 = div_below s n (m + 1) some (omega arith) in
    record { within = omega arith }
quotient_within m n (negsuc s) some p =
    let bound : suc s ≤ m * n = p.within in
    let low : s / n < m = div_below s n m some (omega arith) in
    record { within = omega arith }

-- quotients of equal numbers
pub quotient_of-same : {a b p q : ℤ} → a ≡ p → b ≡ q → quotient_of a b ≡ quotient_of p q
quotient_of-same {a} {b} {p} {q} e f = ap (λ (z : ℤ). quotient_of z b) e ∙ ap (quotient_of p) f

pub floor-same : {a b p q : ℤ} → a ≡ p → b ≡ q → floor a b ≡ floor p q
floor-same {a} {b} {p} {q} e f = ap (λ (z : ℤ). floor z b) e ∙ ap (floor p) f
