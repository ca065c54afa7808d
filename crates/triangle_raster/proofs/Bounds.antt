-- How far from zero sums and products lie, and that numbers so bounded keep their value in a type of 64 or 128 bits.
use Rattle.std.proofs.Common.{◌≡◌, ℕ, ◌+◌, ◌*◌, ◌^◌, ◌≤◌, ◌<◌, ℤ, pos, negsuc, suc, neg_ℤ, ◌+ℤ◌, ◌-ℤ◌, ◌*ℤ◌, ◌≤ℤ◌, FitsSigned, w32, w64, to_z, of_z, sym, subst, ap, arith}
use Rattle.std.specs.Int.{w128}
use Rattle.std.proofs.lemmas.Int.{ints, unsigned_abs-mul}
use Rattle.std.proofs.lemmas.Nat.{mul-le}
use Rattle.triangle_raster.specs.Vertex.{IsWithin}

pub within_product : {m n : ℕ} {a b : ℤ} → IsWithin m a → IsWithin n b → IsWithin (m * n) (a *ℤ b)
within_product {m} {n} {a} {b} p q =
    record { within = subst (λ (k : ℕ). k ≤ m * n) (sym (unsigned_abs-mul a b)) (mul-le _ _ _ _ p.within q.within) }

-- what equals a product, and what equals a number
pub product_near : (r a b : ℤ) → r ≡ a *ℤ b → (m n : ℕ) → IsWithin m a → IsWithin n b → IsWithin (m * n) r
product_near r a b e m n p q = subst (λ (z : ℤ). IsWithin (m * n) z) (sym e) (within_product p q)

pub within_same : {n : ℕ} {b : ℤ} (a : ℤ) → a ≡ b → IsWithin n b → IsWithin n a
within_same {n} a e p = subst (λ (z : ℤ). IsWithin n z) (sym e) p

-- a side of the viewport as a bound
pub side_within : {side : ℤ} → (pos 0 ≤ℤ side) × (side ≤ℤ pos 512) → IsWithin 512 side
side_within h = record { within = omega (arith, ints) }

-- numbers that are passed in a type of 32, 64 or 128 bits keep their value and their bounds
module _ {n : ℕ} {z : ℤ} (p : IsWithin n z) where
  pub kept_32 : n < 2 ^ 31 → to_z w32 (of_z w32 z) ≡ z
  kept_32 small = omega (arith, ints)

  pub kept_64 : n < 2 ^ 63 → to_z w64 (of_z w64 z) ≡ z
  kept_64 small = omega (arith, ints)

  pub kept_128 : n < 2 ^ 127 → to_z w128 (of_z w128 z) ≡ z
  kept_128 small = omega (arith, ints)

  pub as_32 : n < 2 ^ 31 → IsWithin n (to_z w32 (of_z w32 z))
  as_32 small = record { within = omega (arith, ints) }

  pub as_64 : n < 2 ^ 63 → IsWithin n (to_z w64 (of_z w64 z))
  as_64 small = record { within = omega (arith, ints) }

  pub as_128 : n < 2 ^ 127 → IsWithin n (to_z w128 (of_z w128 z))
  as_128 small = record { within = omega (arith, ints) }

-- a wider bound
pub within_more : {m : ℕ} {z : ℤ} (n : ℕ) → IsWithin m z → m ≤ n → IsWithin n z
within_more n p wider = record { within = omega arith }

pub as_wider_128 : {m : ℕ} {z : ℤ} (n : ℕ) → IsWithin m z → m ≤ n → n < 2 ^ 127 → IsWithin n (to_z w128 (of_z w128 z))
as_wider_128 n p wider small = as_128 (within_more n p wider) small

-- a bound that was tested
pub within_from_test : {m n : ℕ} {z : ℤ} → IsWithin m z → m < 2 ^ 127 → (neg_ℤ (pos n) ≤ℤ to_z w128 (of_z w128 z)) × (to_z w128 (of_z w128 z) ≤ℤ pos n) → IsWithin n z
within_from_test {m} {n} {z} p small h = let low = h.0 in let high = h.1 in record { within = omega (arith, ints) }

-- a number is zero where its bits are
zero_from_bits' : (z : ℤ) → IsWithin (2 ^ 126) z → of_z w128 z ≡ 0 → z ≡ pos 0
zero_from_bits' (pos n) p e = ap pos e
zero_from_bits' (negsuc n) p e = absurd (let small : suc n ≤ 2 ^ 126 = p.within in omega arith)

pub zero_from_bits : {n : ℕ} {z : ℤ} → IsWithin n z → n ≤ 2 ^ 126 → of_z w128 z ≡ 0 → z ≡ pos 0
zero_from_bits {n} {z} p small e = zero_from_bits' z (within_more (2 ^ 126) p small) e

-- columns and rows
pub kept_column : {x : ℤ} → (pos 0 ≤ℤ x) × (x ≤ℤ pos 256) → to_z w32 (of_z w32 x) ≡ x
kept_column h = omega (arith, ints)

-- a sum and twice a step
pub kept_stepped : {r sum step : ℤ} → IsWithin (2 ^ 81) sum → IsWithin (2 ^ 68) step → r ≡ to_z w128 (of_z w128 sum) +ℤ pos 2 *ℤ to_z w128 (of_z w128 step) → to_z w128 (of_z w128 r) ≡ sum +ℤ pos 2 *ℤ step
kept_stepped p q e = omega (arith, ints)

-- sums and differences at 64 and 128 bits: they fit, they are what they are, and they keep a bound
module _ {m n : ℕ} {a b : ℤ} (p : IsWithin m a) (q : IsWithin n b) where
  pub sum_fits_64 : m + n ≤ 2 ^ 62 → FitsSigned w64 (to_z w64 (of_z w64 a) +ℤ to_z w64 (of_z w64 b))
  sum_fits_64 small = omega (arith, ints)

  pub sum_is_64 : m + n ≤ 2 ^ 62 → to_z w64 (of_z w64 (to_z w64 (of_z w64 a) +ℤ to_z w64 (of_z w64 b))) ≡ a +ℤ b
  sum_is_64 small = omega (arith, ints)

  pub sum_fits_128 : m + n ≤ 2 ^ 126 → FitsSigned w128 (to_z w128 (of_z w128 a) +ℤ to_z w128 (of_z w128 b))
  sum_fits_128 small = omega (arith, ints)

  pub sum_is_128 : m + n ≤ 2 ^ 126 → to_z w128 (of_z w128 (to_z w128 (of_z w128 a) +ℤ to_z w128 (of_z w128 b))) ≡ a +ℤ b
  sum_is_128 small = omega (arith, ints)

  pub difference_fits_128 : m + n ≤ 2 ^ 126 → FitsSigned w128 (to_z w128 (of_z w128 a) -ℤ to_z w128 (of_z w128 b))
  difference_fits_128 small = omega (arith, ints)

  pub difference_is_128 : m + n ≤ 2 ^ 126 → to_z w128 (of_z w128 (to_z w128 (of_z w128 a) -ℤ to_z w128 (of_z w128 b))) ≡ a -ℤ b
  difference_is_128 small = omega (arith, ints)

  pub sum_near : (k : ℕ) → m + n ≤ k → IsWithin k (a +ℤ b)
  sum_near k small = record { within = omega (arith, ints) }

  pub difference_near : (k : ℕ) → m + n ≤ k → IsWithin k (a -ℤ b)
  difference_near k small = record { within = omega (arith, ints) }
