-- Products that rise with a factor, and quotients that are rounded down.
use Rattle.std.proofs.Common.{◌≡◌, ℤ, pos, negsuc, ◌+ℤ◌, ◌-ℤ◌, ◌*ℤ◌, ◌<ℤ◌, ◌≤ℤ◌, sym, arith}
use Rattle.std.specs.Int.{int_div_euclid}
use Rattle.std.proofs.lemmas.Int.{ints, by_lt_z}
use Rattle.std.proofs.lemmas.Nat.{div-add-mod', mod_below}
use Rattle.triangle_raster.proofs.WholeNumbers.{product-difference, product-sum}

pub product_not_negative : (a b : ℤ) → pos 0 ≤ℤ a → pos 0 ≤ℤ b → pos 0 ≤ℤ (a *ℤ b)
product_not_negative (pos a) (pos b) h k = omega (arith, ints)
product_not_negative (negsuc a) b h k = absurd (omega (arith, ints))
product_not_negative (pos a) (negsuc b) h k = absurd (omega (arith, ints))

pub product_rises : (w a b : ℤ) → pos 0 ≤ℤ w → a ≤ℤ b → (w *ℤ a) ≤ℤ (w *ℤ b)
product_rises w a b h k =
    let more : pos 0 ≤ℤ (w *ℤ (b -ℤ a)) = product_not_negative w (b -ℤ a) h (omega (arith, ints)) in
    omega (arith, ints, product-difference w b a)

-- a product that is less than the next multiple is of no greater a factor
pub lesser_factor : (w a b : ℤ) → pos 0 <ℤ w → (w *ℤ a) <ℤ (w *ℤ b +ℤ w) → a ≤ℤ b
lesser_factor w a b h k =
    by_lt_z b a
    (λ less.
    let more : (w *ℤ (b +ℤ pos 1)) ≤ℤ (w *ℤ a) = product_rises w (b +ℤ pos 1) a (omega (arith, ints)) (omega (arith, ints)) in
    absurd (omega (arith, ints, product-sum w b (pos 1))))
    (λ other. other)

-- the divisor times the quotient is at most the dividend, and less than the divisor below it
pub quotient_low : (s t : ℤ) → pos 0 <ℤ t → (t *ℤ int_div_euclid s t) ≤ℤ s
quotient_low (pos s) (pos t) h = omega (arith, ints, div-add-mod' s t)
quotient_low (negsuc s) (pos t) h = let small = mod_below s t (omega (arith, ints)) in omega (arith, ints, div-add-mod' s t)
quotient_low (pos s) (negsuc t) h = absurd (omega (arith, ints))
quotient_low (negsuc s) (negsuc t) h = absurd (omega (arith, ints))

pub quotient_high : (s t : ℤ) → pos 0 <ℤ t → s <ℤ (t *ℤ int_div_euclid s t +ℤ t)
quotient_high (pos s) (pos t) h = let small = mod_below s t (omega (arith, ints)) in omega (arith, ints, div-add-mod' s t)
quotient_high (negsuc s) (pos t) h = omega (arith, ints, div-add-mod' s t)
quotient_high (pos s) (negsuc t) h = absurd (omega (arith, ints))
quotient_high (negsuc s) (negsuc t) h = absurd (omega (arith, ints))

-- no other number does that
pub quotient_is : (s t q : ℤ) → pos 0 <ℤ t → (t *ℤ q) ≤ℤ s → s <ℤ (t *ℤ q +ℤ t) → int_div_euclid s t ≡ q
quotient_is s t q h low high =
    let own_low : (t *ℤ int_div_euclid s t) ≤ℤ s = quotient_low s t h in
    let own_high : s <ℤ (t *ℤ int_div_euclid s t +ℤ t) = quotient_high s t h in
    let below : int_div_euclid s t ≤ℤ q = lesser_factor t (int_div_euclid s t) q h (omega (arith, ints)) in
    let above : q ≤ℤ int_div_euclid s t = lesser_factor t q (int_div_euclid s t) h (omega (arith, ints)) in
    omega (arith, ints)

-- a number that leaves from zero to below the whole is the quotient, however it was guessed
pub guessed : (sum whole guess product left : ℤ) → pos 0 <ℤ whole → product ≡ whole *ℤ guess → left ≡ sum -ℤ product → pos 0 ≤ℤ left → left <ℤ whole → guess ≡ int_div_euclid sum whole
guessed sum whole guess product left some e is low high =
    sym (quotient_is sum whole guess some (omega (arith, ints)) (omega (arith, ints)))
