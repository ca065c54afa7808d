-- Floors and roots are the greatest numbers of their kind.
use Rattle.std.proofs.Common.{◌≡◌, ℕ, zero, suc, ◌+◌, ◌*◌, ◌/◌, ◌%◌, ◌<◌, inl, inr, ℤ, pos, negsuc, neg_ℤ, ◌+ℤ◌, ◌*ℤ◌, ◌<ℤ◌, Bool, cond, sym, subst, arith}
use Rattle.std.specs.Int.{int_div_euclid}
use Rattle.std.proofs.lemmas.Bool.{cases_lt, le-leb, lt-leb}
use Rattle.std.proofs.lemmas.Int.{ints}
use Rattle.std.proofs.lemmas.Nat.{div-add-mod', mod_below}
use Rattle.fixed_transform.specs.Axis.{floor_root, greatest_root}
use Rattle.fixed_transform.specs.Laws.{FloorIsGreatest, IsFloor, IsFloorRoot}

negative_product : (q n : ℕ) → neg_ℤ (pos q) *ℤ pos n ≡ neg_ℤ (pos (q * n))
negative_product zero n = omega (arith, ints)
negative_product (suc q) n = omega (arith, ints)

euclid_is_floor : (a : ℤ) (n : ℕ) → 0 < n → IsFloor a (pos n) (int_div_euclid a (pos n))
euclid_is_floor (pos a) n some =
    let parts : a / n * n + a % n ≡ a = div-add-mod' a n in
    let rest : a % n < n = mod_below a n some in
    record {
      at_most = omega (arith, ints);
      next_past = omega (arith, ints);
    }
euclid_is_floor (negsuc a) n some =
    let parts : a / n * n + a % n ≡ a = div-add-mod' a n in
    let rest : a % n < n = mod_below a n some in
    let next : negsuc (a / n) +ℤ pos 1 ≡ neg_ℤ (pos (a / n)) = omega (arith, ints) in
    let past : negsuc a <ℤ neg_ℤ (pos (a / n * n)) = omega (arith, ints) in
    record {
      at_most = omega (arith, ints);
      next_past = subst (λ (z : ℤ). negsuc a <ℤ (z *ℤ pos n)) (sym next) (subst (λ (z : ℤ). negsuc a <ℤ z) (sym (negative_product (a / n) n)) past);
    }

pub floor_is_greatest : (a b : ℤ) → FloorIsGreatest a b
floor_is_greatest a (pos n) = record {
  above_zero = λ h. euclid_is_floor a n (omega (arith, ints));
  below_zero = λ h. absurd (omega (arith, ints));
}
floor_is_greatest a (negsuc n) = record {
  above_zero = λ h. absurd (omega (arith, ints));
  below_zero = λ h. euclid_is_floor (neg_ℤ a) (suc n) (omega arith);
}

greatest_root_is_greatest : (n k : ℕ) → n < (k + 1) * (k + 1) → IsFloorRoot n (greatest_root n k)
greatest_root_is_greatest n zero h = record { at_most = omega arith; next_past = omega arith }
greatest_root_is_greatest n (suc k) h =
    elim (cases_lt n (suc k * suc k)) [
      | inl past ↦
          subst (λ (b : Bool). IsFloorRoot n (cond b (suc k) (greatest_root n k))) (sym (lt-leb (suc k * suc k) n past)) (greatest_root_is_greatest n k (omega arith))
      | inr fits ↦
          subst (λ (b : Bool). IsFloorRoot n (cond b (suc k) (greatest_root n k))) (sym (le-leb (suc k * suc k) n fits)) (record { at_most = fits; next_past = h })
    ]

pub floor_root_is_greatest : (n : ℕ) → IsFloorRoot n (floor_root n)
unfolding floor_root
floor_root_is_greatest n = greatest_root_is_greatest n n (omega arith)
