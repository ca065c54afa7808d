-- How far an element of an array may lie, so that no sum of places runs over; and the arrays that are read are arrays.
use Rattle.std.proofs.Common.{ℕ, zero, suc, ◌+◌, ◌*◌, ◌^◌, ◌<◌, ◌≤◌, ℤ, pos, negsuc, ◌<ℤ◌, ◌≤ℤ◌, List, [], ◌∷◌, eqb, arith}
use Rattle.std.specs.Prelude.{slice_index_or, All}
use Rattle.std.proofs.lemmas.Bool.{cond_both}
use Rattle.std.proofs.lemmas.Int.{ints}
use Rattle.std.proofs.lemmas.List.Elements.{All-nil, All-cons}
use Rattle.std.proofs.lemmas.Nat.{mul-le}
use Rattle.gl_tracked.specs.declared.tracked.ArrayState.{ArrayState}
use Rattle.gl_tracked.specs.Element.{element_at, element_bytes, number_bytes, number_count, step_over}
use Rattle.gl_tracked.specs.Tracked.{IsArray, AreTwoArrays}

number_bytes-few : (kind : ℕ) → number_bytes kind ≤ 4
unfolding number_bytes
number_bytes-few kind =
    cond_both (eqb kind 0x1400) _ _ (λ n. n ≤ 4) (λ _. omega arith) (λ _.
    cond_both (eqb kind 0x1401) _ _ (λ n. n ≤ 4) (λ _. omega arith) (λ _.
    cond_both (eqb kind 0x1402) _ _ (λ n. n ≤ 4) (λ _. omega arith) (λ _.
    cond_both (eqb kind 0x140C) _ _ (λ n. n ≤ 4) (λ _. omega arith) (λ _. omega arith))))

number_count-few : (size : ℤ) → size ≤ℤ pos 4 → number_count size ≤ 4
number_count-few (pos size) few = omega (arith, ints, few)
number_count-few (negsuc below) few = omega arith

element_bytes-few : (array : ArrayState) → IsArray array → element_bytes array ≤ 16
unfolding element_bytes
element_bytes-few array is = mul-le (number_count array.size) (number_bytes array.kind) 4 4 (number_count-few array.size is.few) (number_bytes-few array.kind)

step_over-few : (stride : ℤ) (bytes : ℕ) → stride <ℤ pos (2 ^ 31) → bytes ≤ 16 → step_over stride bytes ≤ 2 ^ 31
step_over-few (pos zero) bytes low few = omega arith
step_over-few (pos (suc less)) bytes low few = omega (arith, ints, low)
step_over-few (negsuc below) bytes low few = omega arith

-- an element ends below 2^64
pub element-fits : (array : ArrayState) (place : ℕ) → IsArray array → array.pointer < 2 ^ 32 → array.stride <ℤ pos (2 ^ 31) → place < 2 ^ 32
    → (element_at array place).start + (element_at array place).len < 2 ^ 64
unfolding element_at
element-fits array place is low short near =
    let bytes = element_bytes array in
    let few = element_bytes-few array is in
    let step = step_over array.stride bytes in
    let far : place * step ≤ 2 ^ 32 * 2 ^ 31 = mul-le place step (2 ^ 32) (2 ^ 31) (omega arith) (step_over-few array.stride bytes short few) in
    let fits : array.pointer + place * step + bytes < 2 ^ 64 = omega (arith, low, far, few) in
    fits

-- normals are read as arrays of three numbers
pub normals_are_array : (array : ArrayState) → IsArray array → IsArray (record array { size = pos 3 })
normals_are_array array is = record { some = omega (arith, ints); few = omega (arith, ints); typed = is.typed; forward = is.forward }

pub two_arrays : (texture : List ArrayState) (other : ArrayState) → AreTwoArrays texture → IsArray (slice_index_or texture 0 other) × IsArray (slice_index_or texture 1 other)
two_arrays (one ∷ two ∷ []) other are = are
two_arrays _ other are = absurd are

pub five_arrays : (a b c d e : ArrayState) → IsArray a → IsArray b → IsArray c → IsArray d → IsArray e → All IsArray (a ∷ b ∷ c ∷ d ∷ e ∷ [])
five_arrays a b c d e is_a is_b is_c is_d is_e =
    All-cons IsArray a (b ∷ c ∷ d ∷ e ∷ []) is_a (All-cons IsArray b (c ∷ d ∷ e ∷ []) is_b (All-cons IsArray c (d ∷ e ∷ []) is_c
    (All-cons IsArray d (e ∷ []) is_d (All-cons IsArray e [] is_e (All-nil IsArray)))))
