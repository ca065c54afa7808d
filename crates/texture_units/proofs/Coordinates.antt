-- Coordinates over q, how far they come along a side, and where shifts and divisions agree.
use Rattle.std.proofs.Common.{◌≡◌, ℕ, Bool, true, false, cond, ◌-◌, ◌+◌, ◌*◌, ◌^◌, ◌<◌, ◌≤◌, ℤ, pos, negsuc, ◌*ℤ◌, ◌≤ℤ◌, ◌<ℤ◌, unsigned_abs, min, FitsSigned, w32, refl, sym, ap, subst, ◌∙◌, arith, lit<}
use Rattle.std.specs.Int.{int_div_euclid, int_rem_euclid}
use Rattle.std.proofs.lemmas.Bool.{le-ltb, lt-ltb}
use Rattle.std.proofs.lemmas.Int.{ints, unsigned_abs-mul}
use Rattle.std.proofs.Math.Nat.{mod-eq_of_lt}
use Rattle.std.proofs.lemmas.Nat.{div-mul-add, mul-le}
use Rattle.texture_units.specs.Place.{along, clamp_i32, coordinate_of, nearest_of, past_centre, place_of, repeated, share_of}
use Rattle.texture_units.specs.Laws.{LiesIn}
use lib.Signed.{shr_z}

-- where q is 1 the coordinate is the number
clamp-quotient : (z : ℤ) → FitsSigned w32 z → clamp_i32 (int_div_euclid (z *ℤ pos 65536) (pos 65536)) ≡ z
clamp-quotient (pos n) fits =
    let product : pos n *ℤ pos 65536 ≡ pos (n * 65536 + 0) = omega (arith, ints) in
    let small : n < 2 ^ 31 = omega (arith, ints, fits) in
    let least : min n (2 ^ 31 - 1) ≡ n = omega arith in
    ap (λ (y : ℤ). clamp_i32 (int_div_euclid y (pos 65536))) product
    ∙ ap (λ (m : ℕ). clamp_i32 (pos m)) (div-mul-add n 65536 0 (lit< tt))
    ∙ ap pos least
clamp-quotient (negsuc n) fits =
    let product : negsuc n *ℤ pos 65536 ≡ negsuc (n * 65536 + 65535) = omega (arith, ints) in
    let small : n < 2 ^ 31 = omega (arith, ints, fits) in
    let least : min n (2 ^ 31 - 1) ≡ n = omega arith in
    ap (λ (y : ℤ). clamp_i32 (int_div_euclid y (pos 65536))) product
    ∙ ap (λ (m : ℕ). clamp_i32 (negsuc m)) (div-mul-add n 65536 65535 (lit< tt))
    ∙ ap negsuc least

pub coordinate_of-one : (z q : ℤ) → FitsSigned w32 z → q ≡ pos 65536 → coordinate_of z q ≡ z
unfolding coordinate_of
coordinate_of-one z q fits is = ap (coordinate_of z) is ∙ clamp-quotient z fits

pub coordinate_of-none : (z q : ℤ) → q ≤ℤ pos 0 → coordinate_of z q ≡ pos 0
unfolding coordinate_of
coordinate_of-none z (pos n) h =
    ap (λ (test : Bool). cond test (clamp_i32 (int_div_euclid (z *ℤ pos 65536) (pos n))) (pos 0)) (le-ltb 0 n (omega (arith, ints)))
coordinate_of-none z (negsuc n) h = refl

pub coordinate_of-some : (z q : ℤ) → pos 0 <ℤ q → clamp_i32 (int_div_euclid (z *ℤ pos 65536) q) ≡ coordinate_of z q
unfolding coordinate_of
coordinate_of-some z (pos n) h =
    sym (ap (λ (test : Bool). cond test (clamp_i32 (int_div_euclid (z *ℤ pos 65536) (pos n))) (pos 0)) (lt-ltb 0 n (omega (arith, ints))))
coordinate_of-some z (negsuc n) h = absurd (omega (arith, ints))

pub quotient-same : {a b p q : ℤ} → a ≡ p → b ≡ q → int_div_euclid a b ≡ int_div_euclid p q
quotient-same {a} {b} {p} {q} e f = ap (λ (z : ℤ). int_div_euclid z b) e ∙ ap (int_div_euclid p) f

-- a coordinate along a side is near
pub along_near : (coordinate : ℤ) (side : ℕ) → unsigned_abs coordinate ≤ 2 ^ 31 → side ≤ 256 → unsigned_abs (along coordinate side) ≤ 2 ^ 39
along_near coordinate side h k =
    subst (λ (n : ℕ). n ≤ 2 ^ 39) (sym (unsigned_abs-mul coordinate (pos side))) (mul-le (unsigned_abs coordinate) side (2 ^ 31) 256 h k)

-- a shift to the right is a division that rounds down
pub shifted : (z : ℤ) (m : ℕ) → shr_z z m ≡ int_div_euclid z (pos m)
shifted (pos n) m = refl
shifted (negsuc n) m = refl

pub quotient_near : (z : ℤ) → unsigned_abs z ≤ 2 ^ 40 → unsigned_abs (int_div_euclid z (pos 65536)) ≤ 2 ^ 24
quotient_near (pos n) h = omega (arith, ints)
quotient_near (negsuc n) h = omega (arith, ints)

-- the texel in which a coordinate lies, where it is on the side
quotient_inside : (place : ℕ) (z : ℤ) → pos (place * 65536) ≤ℤ z → z <ℤ pos (place * 65536 + 65536) → int_div_euclid z (pos 65536) ≡ pos place
quotient_inside place (pos n) low high = omega (arith, ints)
quotient_inside place (negsuc n) low high = absurd (omega (arith, ints))

nearest_place : (clamp : Bool) (place side : ℕ) → place < side → place_of clamp side (pos place) ≡ place
unfolding place_of repeated
nearest_place true place side h = omega arith
nearest_place false place side h = mod-eq_of_lt h

pub nearest_of-inside : (clamp : Bool) (place side : ℕ) (coordinate : ℤ) → place < side → LiesIn place side coordinate → nearest_of clamp side coordinate ≡ place
nearest_of-inside clamp place side coordinate h lies =
    ap (place_of clamp side) (quotient_inside place (along coordinate side) lies.from lies.before) ∙ nearest_place clamp place side h

pub rest_small : (z : ℤ) → unsigned_abs (int_rem_euclid z (pos 65536)) < 65536
rest_small (pos n) = omega arith
rest_small (negsuc n) = omega arith

pub share_of-small : (side : ℕ) (coordinate : ℤ) → share_of side coordinate < 256
unfolding share_of
share_of-small side coordinate = let small = rest_small (past_centre coordinate side) in omega arith
