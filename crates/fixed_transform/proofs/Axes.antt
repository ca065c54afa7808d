-- The greatest number whose square is at most another one.
use Rattle.std.proofs.Common.{◌≡◌, ℕ, zero, suc, ◌+◌, ◌*◌, ◌<◌, ◌≤◌, inl, inr, Bool, cond, sym, ap, subst, ◌∙◌, arith}
use Rattle.std.proofs.lemmas.Bool.{cases_eq, le-leb, lt-leb}
use Rattle.std.proofs.lemmas.Nat.{mul-le}
use Rattle.fixed_transform.specs.Axis.{floor_root, greatest_root}

module _ (n r : ℕ) (at_most : r * r ≤ n) (next : n < (r + 1) * (r + 1)) where
  greatest_root_is : (k : ℕ) → r ≤ k → greatest_root n k ≡ r
  greatest_root_is zero h = omega arith
  greatest_root_is (suc k) h =
      elim (cases_eq r (suc k)) [
        | inl same ↦
            let fits : suc k * suc k ≤ n = subst (λ (m : ℕ). m * m ≤ n) same at_most in
            ap (λ (b : Bool). cond b (suc k) (greatest_root n k)) (le-leb (suc k * suc k) n fits) ∙ sym same
        | inr other ↦
            let less : r + 1 ≤ suc k = omega arith in
            let square : (r + 1) * (r + 1) ≤ suc k * suc k = mul-le (r + 1) (r + 1) (suc k) (suc k) less less in
            let past : n < suc k * suc k = omega arith in
            ap (λ (b : Bool). cond b (suc k) (greatest_root n k)) (lt-leb (suc k * suc k) n past) ∙ greatest_root_is k (omega arith)
      ]

  own_square : (k : ℕ) → k ≤ k * k
  own_square zero = omega arith
  own_square (suc k) = omega arith

  pub floor_root_is : r ≡ floor_root n
  unfolding floor_root
  floor_root_is =
      let within : r ≤ r * r = own_square r in
      sym (greatest_root_is n (omega arith))
