-- The sides that textures may have: which powers of two they are, and what is left of a number over one.
use Rattle.std.proofs.Common.{◌≡◌, ℕ, ◌-◌, ◌*◌, ◌^◌, ◌%◌, ◌<◌, ◌≤◌, Bool, true, ◌||◌, bit_and, ℤ, pos, ◌+ℤ◌, unsigned_abs, eqb, refl, sym, ap, subst, ◌∙◌, inl, inr, arith}
use Rattle.std.proofs.lemmas.Bool.{eqb-true, false≢true, or_cases}
use Rattle.std.proofs.lemmas.Int.{int_rem_euclid_is}
use Rattle.std.proofs.lemmas.Nat.{and_mask, mod_below}
use Rattle.texture_units.specs.Place.{repeated}
use Rattle.texture_units.specs.Texture.{IsSide, is_power}

-- which power of two a number is, and how often it goes into 2^25
pub record Power (number : ℕ) : Type 0 where
  pub some : 1 ≤ number
  pub most : number ≤ 256
  pub bits : ℕ
  pub is : number ≡ 2 ^ bits
  pub turns : ℕ
  pub turned : turns * number ≡ 33554432

-- the number that a test found is this one, or one of the rest
next : (known number : ℕ) (rest : Bool) (P : Type 0) → (eqb known number || rest) ≡ true → (known ≡ number → P) → (rest ≡ true → P) → P
next known number rest P h found other =
    elim (or_cases (eqb known number) rest h) [ inl same ↦ found (eqb-true known number same) | inr more ↦ other more ]

found : (number known : ℕ) → Power known → known ≡ number → Power number
found number known power same = subst (λ (n : ℕ). Power n) same power

pub power_from_test : (number : ℕ) → is_power number ≡ true → Power number
unfolding is_power
power_from_test number h =
    next 1 number _ (Power number) h (found number 1 (record { some = omega arith; most = omega arith; bits = 0; is = refl; turns = 33554432; turned = refl })) (λ h1.
    next 2 number _ (Power number) h1 (found number 2 (record { some = omega arith; most = omega arith; bits = 1; is = refl; turns = 16777216; turned = refl })) (λ h2.
    next 4 number _ (Power number) h2 (found number 4 (record { some = omega arith; most = omega arith; bits = 2; is = refl; turns = 8388608; turned = refl })) (λ h3.
    next 8 number _ (Power number) h3 (found number 8 (record { some = omega arith; most = omega arith; bits = 3; is = refl; turns = 4194304; turned = refl })) (λ h4.
    next 16 number _ (Power number) h4 (found number 16 (record { some = omega arith; most = omega arith; bits = 4; is = refl; turns = 2097152; turned = refl })) (λ h5.
    next 32 number _ (Power number) h5 (found number 32 (record { some = omega arith; most = omega arith; bits = 5; is = refl; turns = 1048576; turned = refl })) (λ h6.
    next 64 number _ (Power number) h6 (found number 64 (record { some = omega arith; most = omega arith; bits = 6; is = refl; turns = 524288; turned = refl })) (λ h7.
    next 128 number _ (Power number) h7 (found number 128 (record { some = omega arith; most = omega arith; bits = 7; is = refl; turns = 262144; turned = refl })) (λ h8.
    next 256 number _ (Power number) h8 (found number 256 (record { some = omega arith; most = omega arith; bits = 8; is = refl; turns = 131072; turned = refl })) (λ none. absurd (false≢true none))))))))))

-- a number is a side exactly where the test says that it is a power
pub side_from_test : (number : ℕ) (test : Bool) → test ≡ is_power number → test ≡ true → IsSide number
side_from_test number test is h =
    let power = power_from_test number (sym is ∙ h) in
    record { some = power.some; most = power.most; power = sym is ∙ h }

-- what is left of a number over a side is its lower bits
pub lower_bits_are : (number side : ℕ) → IsSide side → bit_and number (side - 1) ≡ number % side
lower_bits_are number side h =
    let power = power_from_test side h.power in
    subst (λ (n : ℕ). bit_and number (n - 1) ≡ number % n) (sym power.is) (and_mask number power.bits)

pub rest_below : (number side : ℕ) → IsSide side → number % side < side
rest_below number side h = mod_below number side h.some

-- REPEAT, some turns further on
pub repeated_above : (side above : ℕ) (texel : ℤ) → IsSide side → pos above ≡ texel +ℤ pos 33554432 → above % side ≡ repeated side texel
unfolding repeated
repeated_above side above texel h is =
    let power = power_from_test side h.power in
    let turned : texel +ℤ pos (power.turns * side) ≡ pos above = ap (λ (n : ℕ). texel +ℤ pos n) power.turned ∙ sym is in
    sym (ap unsigned_abs (int_rem_euclid_is texel (pos side) side power.turns above h.some refl turned))
