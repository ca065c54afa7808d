-- Sines of the two halves of a turn, and how great they are.
use Rattle.std.proofs.Common.{◌≡◌, ℕ, ◌+◌, ◌-◌, ◌*◌, ◌/◌, ◌<◌, ◌≤◌, inl, inr, pos, neg_ℤ, cond, Bool, ap, subst, arith}
use Rattle.std.proofs.lemmas.Bool.{cases_lt, le-leb, lt-leb}
use Rattle.std.proofs.lemmas.Nat.{div_below}
use Rattle.fixed_transform.specs.Angle.{half_sine, half_turn, sine}

-- the product of two numbers that lie as far below and above a third one is at most its square
below_square : (u t : ℕ) → u * (u + t + t) ≤ (u + t) * (u + t)
below_square u t = omega arith

pub product_at_most : (u v : ℕ) → u + v ≡ 11796480 → u * v ≤ 34789235097600
product_at_most u v e =
    elim (cases_lt u v) [
      | inl h ↦
          let t : ℕ = 5898240 - u in
          let whole : u + t ≡ 5898240 = omega arith in
          let other : u + t + t ≡ v = omega arith in
          subst (λ (n : ℕ). u * n ≤ 34789235097600) other (subst (λ (n : ℕ). u * (u + t + t) ≤ n * n) whole (below_square u t))
      | inr h ↦
          let t : ℕ = 5898240 - v in
          let whole : v + t ≡ 5898240 = omega arith in
          let other : v + t + t ≡ u = omega arith in
          let swapped : v * u ≤ 34789235097600 = subst (λ (n : ℕ). v * n ≤ 34789235097600) other (subst (λ (n : ℕ). v * (v + t + t) ≤ n * n) whole (below_square v t)) in
          omega arith
    ]

pub ratio_at_most_one : (p : ℕ) → p ≤ 34789235097600 → 65536 * (4 * p) / (173946175488000 - p) ≤ 65536
ratio_at_most_one p h =
    let some : 0 < 173946175488000 - p = omega arith in
    let below : 65536 * (4 * p) < 65537 * (173946175488000 - p) = omega arith in
    let low : 65536 * (4 * p) / (173946175488000 - p) < 65537 = div_below (65536 * (4 * p)) (173946175488000 - p) 65537 some below in
    omega arith

pub sine-first : (d : ℕ) → d ≤ 11796480 → sine d ≡ pos (half_sine d)
unfolding sine
sine-first d h = ap (λ (b : Bool). cond b (pos (half_sine d)) (neg_ℤ (pos (half_sine (d - half_turn))))) (le-leb d 11796480 h)

pub sine-second : (d : ℕ) → 11796480 < d → sine d ≡ neg_ℤ (pos (half_sine (d - half_turn)))
unfolding sine
sine-second d h = ap (λ (b : Bool). cond b (pos (half_sine d)) (neg_ℤ (pos (half_sine (d - half_turn))))) (lt-leb d 11796480 h)
