-- Quotients with what is left of their divisions: they are the quotients that are rounded down, and go on by steps.
use Rattle.std.proofs.Common.{◌≡◌, ℕ, ◌^◌, ◌≤◌, ℤ, pos, ◌+ℤ◌, ◌-ℤ◌, ◌*ℤ◌, ◌<ℤ◌, ◌≤ℤ◌, unsigned_abs, to_z, of_z, w64, sym, ap, subst, ◌∙◌, arith, lit<}
use Rattle.std.specs.Int.{int_div_euclid, w128}
use Rattle.std.proofs.lemmas.Int.{ints}
use Rattle.triangle_raster.specs.declared.carry.Carries.{Carries}
use Rattle.triangle_raster.specs.Carry.{AreCarries, IsCarry, IsLeft}
use Rattle.triangle_raster.specs.Vertex.{IsWithin}
use Rattle.triangle_raster.proofs.Bounds.{kept_128}
use Rattle.triangle_raster.proofs.Means.{quotient_within}
use Rattle.triangle_raster.proofs.WholeNumbers.{product-sum}
use Rattle.triangle_raster.proofs.Quotients.{quotient_high, quotient_is, quotient_low}

-- no other quotient leaves a remainder from zero to below the whole
pub quotient_carried : {whole n q r : ℤ} → IsCarry whole n q r → int_div_euclid n whole ≡ q
quotient_carried {whole} {n} {q} {r} c =
    let split : n ≡ whole *ℤ q +ℤ r = c.split in
    let low : pos 0 ≤ℤ r = c.left.from_zero in
    let high : r <ℤ whole = c.left.below in
    quotient_is n whole q (omega (arith, ints)) (omega (arith, ints)) (omega (arith, ints))

-- what is left of a division that is made
pub carry_of : (whole n : ℤ) → pos 0 <ℤ whole → (r : ℤ) → r ≡ n -ℤ whole *ℤ int_div_euclid n whole → IsCarry whole n (int_div_euclid n whole) r
carry_of whole n some r e =
    let low = quotient_low n whole some in
    let high = quotient_high n whole some in
    record {
      split = omega (arith, ints);
      left = record { from_zero = omega (arith, ints); below = omega (arith, ints) };
    }

module _ (whole q r p s : ℤ) (here : IsLeft whole r) (further : IsLeft whole s) where
  pub carry_stays : {a b : ℤ} → a ≡ q +ℤ p → b ≡ r +ℤ s → b <ℤ whole → (m n : ℤ) → IsCarry whole m q r → IsCarry whole n p s → IsCarry whole (m +ℤ n) a b
  carry_stays {a} {b} e h below m n c d =
      let first : m ≡ whole *ℤ q +ℤ r = c.split in
      let second : n ≡ whole *ℤ p +ℤ s = d.split in
      let low : pos 0 ≤ℤ r = here.from_zero in
      let more : pos 0 ≤ℤ s = further.from_zero in
      record {
        split = rw e (omega (arith, ints, product-sum whole q p));
        left = record { from_zero = omega (arith, ints); below = below };
      }

  pub carry_over : {a b : ℤ} → a ≡ q +ℤ p +ℤ pos 1 → b ≡ r +ℤ s -ℤ whole → whole ≤ℤ (r +ℤ s) → (m n : ℤ) → IsCarry whole m q r → IsCarry whole n p s → IsCarry whole (m +ℤ n) a b
  carry_over {a} {b} e h above m n c d =
      let first : m ≡ whole *ℤ q +ℤ r = c.split in
      let second : n ≡ whole *ℤ p +ℤ s = d.split in
      let low : r <ℤ whole = here.below in
      let more : s <ℤ whole = further.below in
      record {
        split = rw e (omega (arith, ints, product-sum whole (q +ℤ p) (pos 1), product-sum whole q p));
        left = record { from_zero = omega (arith, ints); below = omega (arith, ints) };
      }

-- the same at 128 bits
abbrev kept : ℤ → ℤ
kept z = to_z w128 (of_z w128 z)

positive_abs : (whole : ℤ) → pos 0 <ℤ whole → 1 ≤ unsigned_abs whole
positive_abs whole some = omega (arith, ints)

-- a quotient is no further from zero than what is divided
quotient_near : (whole n q : ℤ) → pos 0 <ℤ whole → q ≡ int_div_euclid n whole → IsWithin (2 ^ 126) n → IsWithin (2 ^ 126) q
quotient_near whole n q some e near =
    subst (λ (z : ℤ). IsWithin (2 ^ 126) z) (sym e)
    (quotient_within (2 ^ 126) n whole some (record { within = omega (arith, ints, near.within, positive_abs whole some) }))

module _ (whole n : ℤ) (near : IsWithin (2 ^ 126) n) (some : pos 0 <ℤ whole) (few : whole ≤ℤ pos (2 ^ 120)) {q : ℤ} (e : q ≡ int_div_euclid n whole) where
  product_bounds : ((whole *ℤ q) ≤ℤ n) × (n <ℤ (whole *ℤ q +ℤ whole))
  product_bounds =
      (subst (λ (z : ℤ). (whole *ℤ z) ≤ℤ n) (sym e) (quotient_low n whole some), subst (λ (z : ℤ). n <ℤ (whole *ℤ z +ℤ whole)) (sym e) (quotient_high n whole some))

  pub carry_from_code : IsCarry whole n (kept q) (kept (kept n -ℤ kept (kept whole *ℤ kept q)))
  carry_from_code =
      let same_q : kept q ≡ q = kept_128 (quotient_near whole n q some e near) (lit< tt) in
      let same_n : kept n ≡ n = kept_128 near (lit< tt) in
      let same_whole : kept whole ≡ whole = omega (arith, ints) in
      let low = product_bounds.0 in
      let high = product_bounds.1 in
      let same_product : kept whole *ℤ kept q ≡ whole *ℤ q = ap (λ (z : ℤ). z *ℤ kept q) same_whole ∙ ap (λ (z : ℤ). whole *ℤ z) same_q in
      let left : kept (kept n -ℤ kept (kept whole *ℤ kept q)) ≡ n -ℤ whole *ℤ q = omega (arith, ints) in
      subst (λ (z : ℤ). IsCarry whole n z (kept (kept n -ℤ kept (kept whole *ℤ kept q)))) (sym (same_q ∙ e))
      (carry_of whole n some _ (left ∙ ap (λ (z : ℤ). n -ℤ whole *ℤ z) e))

-- numbers that were passed and are what they were
pub carry_kept : {whole n q r a b : ℤ} → a ≡ q → b ≡ r → IsCarry whole n q r → IsCarry whole n a b
carry_kept {whole} {n} {q} {r} {a} {b} e h c =
    subst (λ (z : ℤ). IsCarry whole n a z) (sym h) (subst (λ (z : ℤ). IsCarry whole n z r) (sym e) c)

pub left_kept : {whole r : ℤ} → IsLeft whole r → whole ≤ℤ pos (2 ^ 62) → to_z w64 (of_z w64 r) ≡ r
left_kept {whole} {r} left few =
    let low : pos 0 ≤ℤ r = left.from_zero in let high : r <ℤ whole = left.below in omega (arith, ints)

pub long_left_kept : {whole r : ℤ} → IsLeft whole r → whole ≤ℤ pos (2 ^ 120) → to_z w128 (of_z w128 r) ≡ r
long_left_kept {whole} {r} left few =
    let low : pos 0 ≤ℤ r = left.from_zero in let high : r <ℤ whole = left.below in omega (arith, ints)

pub left_same : {whole other r b : ℤ} → other ≡ whole → b ≡ r → IsLeft whole r → IsLeft other b
left_same {whole} {other} {r} {b} e h left =
    subst (λ (z : ℤ). IsLeft z b) (sym e) (subst (λ (z : ℤ). IsLeft whole z) (sym h) left)

pub carry_same : {whole n q r : ℤ} {whole' n' : ℤ} → whole' ≡ whole → n' ≡ n → IsCarry whole' n' q r → IsCarry whole n q r
carry_same {whole} {n} {q} {r} {whole'} {n'} e h c =
    subst (λ (z : ℤ). IsCarry whole z q r) h (subst (λ (z : ℤ). IsCarry z n' q r) e c)

pub carries_same : {whole whole' : ℤ} {count : ℕ} {numbers : ℕ → ℤ} {c : Carries} → whole' ≡ whole → AreCarries whole' count numbers c → AreCarries whole count numbers c
carries_same {whole} {whole'} {count} {numbers} {c} e all = subst (λ (z : ℤ). AreCarries z count numbers c) e all

pub counted_same : {whole : ℤ} {count count' : ℕ} {numbers : ℕ → ℤ} {c : Carries} → count' ≡ count → AreCarries whole count' numbers c → AreCarries whole count numbers c
counted_same {whole} {count} {count'} {numbers} {c} e all = subst (λ (n : ℕ). AreCarries whole n numbers c) e all

pub whole_kept : {whole : ℤ} → pos 0 <ℤ whole → whole ≤ℤ pos (2 ^ 62) → to_z w64 (of_z w64 whole) ≡ whole
whole_kept some few = omega (arith, ints)

pub divisor_kept : {whole : ℤ} → pos 0 <ℤ whole → whole ≤ℤ pos (2 ^ 120) → to_z w128 (of_z w128 whole) ≡ whole
divisor_kept some few = omega (arith, ints)

-- twice an edge's first part
pub rise_kept : {z : ℤ} → IsWithin (2 ^ 68) z → kept (pos 2 *ℤ kept z) ≡ pos 2 *ℤ z
rise_kept near = omega (arith, ints)

pub rise_near : {z : ℤ} → IsWithin (2 ^ 68) z → IsWithin (2 ^ 81) (kept (pos 2 *ℤ kept z))
rise_near near = record { within = omega (arith, ints) }
