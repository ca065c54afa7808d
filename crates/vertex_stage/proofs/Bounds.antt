-- How far an element that can be drawn may lie, and numbers between two others.
use Rattle.std.proofs.Common.{ℕ, zero, suc, ◌+◌, ◌-◌, ◌*◌, ◌^◌, ◌<◌, ◌≤◌, ℤ, pos, negsuc, ◌<ℤ◌, ◌≤ℤ◌, eqb, arith}
use Rattle.std.specs.Prelude.{neg_ℤ}
use Rattle.std.proofs.lemmas.Bool.{cond_both}
use Rattle.std.proofs.lemmas.Int.{ints}
use Rattle.std.proofs.lemmas.Nat.{mul-le}
use Rattle.gl_tracked.specs.declared.tracked.ArrayState.{ArrayState}
use Rattle.gl_tracked.specs.Element.{element_at, element_bytes, number_bytes, number_count, step_over}
use Rattle.gl_tracked.specs.Tracked.{IsArray}
use Rattle.triangle_raster.specs.Vertex.{IsWithin}

number_bytes-few : (kind : ℕ) → number_bytes kind ≤ 4
unfolding number_bytes
number_bytes-few kind =
    cond_both (eqb kind 0x1400) _ _ (λ n. n ≤ 4) (λ _. omega arith) (λ _.
    cond_both (eqb kind 0x1401) _ _ (λ n. n ≤ 4) (λ _. omega arith) (λ _.
    cond_both (eqb kind 0x1402) _ _ (λ n. n ≤ 4) (λ _. omega arith) (λ _.
    cond_both (eqb kind 0x140C) _ _ (λ n. n ≤ 4) (λ _. omega arith) (λ _. omega arith))))

number_count-few : (size : ℤ) → size ≤ℤ pos 4 → number_count size ≤ 4
number_count-few (pos size) few = omega (arith, ints, few)
number_count-few (negsuc below) few = omega arith

element_bytes-few : (array : ArrayState) → IsArray array → element_bytes array ≤ 16
unfolding element_bytes
element_bytes-few array is = mul-le (number_count array.size) (number_bytes array.kind) 4 4 (number_count-few array.size is.few) (number_bytes-few array.kind)

step_over-few : (stride : ℤ) (bytes : ℕ) → stride <ℤ pos (2 ^ 31) → bytes ≤ 16 → step_over stride bytes ≤ 2 ^ 31
step_over-few (pos zero) bytes low few = omega arith
step_over-few (pos (suc less)) bytes low few = omega (arith, ints, low)
step_over-few (negsuc below) bytes low few = omega arith

-- an element that can be drawn begins far below 2^63
pub start-low : (array : ArrayState) (place : ℕ) → IsArray array → array.pointer < 2 ^ 32 → array.stride <ℤ pos (2 ^ 31) → place < 2 ^ 31 + 2 ^ 16
    → (element_at array place).start < 2 ^ 63 - 2 ^ 32
unfolding element_at
start-low array place is low short near =
    let bytes = element_bytes array in
    let few = element_bytes-few array is in
    let step = step_over array.stride bytes in
    let far : place * step ≤ (2 ^ 31 + 2 ^ 16) * 2 ^ 31 = mul-le place step (2 ^ 31 + 2 ^ 16) (2 ^ 31) (omega arith) (step_over-few array.stride bytes short few) in
    omega (arith, low, far)

-- a number between two that are as far from zero is no further
pub within-between : (n : ℕ) (z : ℤ) → neg_ℤ (pos n) ≤ℤ z → z ≤ℤ pos n → IsWithin n z
within-between n (pos z) low high = record { within = omega (arith, ints, high) }
within-between zero (negsuc z) low high = record { within = omega (arith, ints, low) }
within-between (suc n) (negsuc z) low high = record { within = omega (arith, ints, low) }
