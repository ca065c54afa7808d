-- Depth and values that are carried are those of the pixel, in this column and in the next.
use Rattle.std.proofs.Common.{◌≡◌, ℕ, ◌≤◌, ◌<◌, ◌^◌, Bool, true, false, ◌&&◌, ℤ, pos, neg_ℤ, ◌+ℤ◌, ◌*ℤ◌, ◌<ℤ◌, ◌≤ℤ◌, length, Some, refl, sym, ap, subst, ◌∙◌, arith}
use Rattle.std.specs.Int.{int_div_euclid}
use Rattle.std.specs.Prelude.{int_le, int_lt}
use Rattle.std.proofs.lemmas.Int.{ints, by_lt_z}
use Rattle.triangle_raster.specs.declared.shape.Shape.{Shape}
use Rattle.triangle_raster.specs.declared.steps.Steps.{Steps}
use Rattle.triangle_raster.specs.declared.sums.Sums.{Sums}
use Rattle.triangle_raster.specs.declared.carry.Carries.{Carries}
use Rattle.triangle_raster.specs.Carry.{AreCarries, IsCarry}
use Rattle.triangle_raster.specs.Vertex.{IsWithin, corner}
use Rattle.triangle_raster.specs.Pixel.{Weights, is_covered, is_kept, mean, means, w_at, weighted, weights_of, z_at}
use Rattle.triangle_raster.specs.Ranges.{number_at}
use Rattle.triangle_raster.specs.Held.{depth_at, rises_of, steps_of, sum_at, whole_of, AreSameFrom, AreSteps, HaveTenValues, IsShape}
use Rattle.triangle_raster.proofs.WholeNumbers.{product-negative, product-product}
use Rattle.triangle_raster.proofs.Fragments.{mean_kept, some_depth, weighted_kept}
use Rattle.triangle_raster.proofs.Means.{depth_as_kept, mean_within, means_from_each}
use Rattle.triangle_raster.proofs.Ranges.{covered_not_negative, from_low, mean-same, to_high, weighted-same}
use Rattle.triangle_raster.proofs.Levels.{grown_by}
use Rattle.triangle_raster.proofs.Carries.{quotient_carried}

all_of_three : {a b c : Bool} → a ≡ true → b ≡ true → c ≡ true → (a && (b && c)) ≡ true
all_of_three {a} {b} {c} p q r =
    ap (λ (k : Bool). k && (b && c)) p ∙ ap (λ (k : Bool). k && c) q ∙ r

kept_true : (z w : ℤ) → pos 0 <ℤ w → neg_ℤ w ≤ℤ z → z ≤ℤ w → is_kept z w ≡ true
unfolding is_kept
kept_true z w h k l =
    let first : int_lt (pos 0) w ≡ true = grind (arith, ints) in
    let second : int_le (neg_ℤ w) z ≡ true = grind (arith, ints) in
    let third : int_le z w ≡ true = grind (arith, ints) in
    all_of_three first second third

abbrev sums_from : Weights → Sums
sums_from w = record { one = w.one; two = w.two; three = w.three }

weighted-rises : (s : Shape) (a b c : ℤ) → weighted (rises_of s) a b c ≡ pos 2 *ℤ weighted (steps_of s) a b c
unfolding weighted
weighted-rises s a b c =
    omega (arith, ints, product-product (pos 2) s.one.x a, product-product (pos 2) s.two.x b, product-product (pos 2) s.three.x c)

module _ (s : Shape) (shape : IsShape s) (x y : ℤ) where
  risen : (a b c : ℤ) → weighted (weights_of s.corners s.view (x +ℤ pos 1) y) a b c ≡ weighted (weights_of s.corners s.view x y) a b c +ℤ weighted (rises_of s) a b c
  risen a b c =
      let grown : weighted (weights_of s.corners s.view (x +ℤ pos 1) y) a b c ≡ weighted (weights_of s.corners s.view x y) a b c +ℤ pos 2 *ℤ weighted (steps_of s) a b c =
      grown_by s shape x y (sums_from (weights_of s.corners s.view x y)) (sums_from (weights_of s.corners s.view (x +ℤ pos 1) y)) refl refl a b c
      in
      grown ∙ ap (λ (z : ℤ). weighted (weights_of s.corners s.view x y) a b c +ℤ z) (sym (weighted-rises s a b c))

  z_at-risen : z_at s.corners (weights_of s.corners s.view (x +ℤ pos 1) y) ≡ z_at s.corners (weights_of s.corners s.view x y) +ℤ z_at s.corners (rises_of s)
  unfolding z_at
  z_at-risen = risen _ _ _

  -- the carries of one column and their steps are those of the next
  pub carries_next : (whole : ℤ) (count : ℕ) (c : Carries) →
      AreCarries whole count (λ (k : ℕ). sum_at s.corners (weights_of s.corners s.view x y) k +ℤ sum_at s.corners (rises_of s) k) c →
      AreCarries whole count (sum_at s.corners (weights_of s.corners s.view (x +ℤ pos 1) y)) c
  carries_next whole count c carried = record {
    each = λ k below. subst (λ (z : ℤ). IsCarry whole z (number_at c.values k) (number_at c.remainders k)) (sym (risen _ _ _)) (carried.each k below);
  }

module _ (s : Shape) (shape : IsShape s) (moving : ℕ) (t : Steps) (steps : AreSteps s moving t) where
  module _ (x y : ℤ) where
    abbrev here : Weights
    here = weights_of s.corners s.view x y

    whole_is : whole_of here ≡ t.whole
    whole_is = steps.whole_holds.everywhere x y

    pub some_whole : pos 0 <ℤ whole_of here
    some_whole = subst (λ (z : ℤ). pos 0 <ℤ z) (sym whole_is) steps.whole_holds.some

    w_at-even : w_at s.corners here ≡ whole_of here *ℤ (corner s.corners 0).w
    unfolding w_at
    w_at-even =
        weighted_kept here refl (sym steps.between.second_same) (sym steps.between.third_same) ∙ weighted-same here (corner s.corners 0).w

    pub divisor_is : t.divisor ≡ pos 2 *ℤ w_at s.corners here
    divisor_is =
        steps.divisor_holds
        ∙ ap (λ (z : ℤ). pos 2 *ℤ z) (sym (w_at-even ∙ ap (λ (z : ℤ). z *ℤ (corner s.corners 0).w) whole_is))

    some_w : pos 0 <ℤ w_at s.corners here
    some_w = let some = steps.some_divisor in let is = divisor_is in omega (arith, ints)

    module _ (covered : is_covered s.corners s.view x y ≡ true) where
      z_low : neg_ℤ (w_at s.corners here) ≤ℤ z_at s.corners here
      unfolding z_at
      z_low =
          let low = from_low here (covered_not_negative s.corners s.view x y covered) _ _ _ (neg_ℤ (corner s.corners 0).w) steps.between.first_from_near steps.between.second_from_near steps.between.third_from_near in
          let even = w_at-even in
          let turned = product-negative (whole_of here) (corner s.corners 0).w in
          omega (arith, ints)

      z_high : z_at s.corners here ≤ℤ w_at s.corners here
      unfolding z_at
      z_high =
          let high = to_high here (covered_not_negative s.corners s.view x y covered) _ _ _ (corner s.corners 0).w steps.between.first_to_far steps.between.second_to_far steps.between.third_to_far in
          let even = w_at-even in
          omega (arith, ints)

      -- a carried depth is the depth here
      pub depth_here : {q r : ℤ} → IsCarry t.divisor ((z_at s.corners here +ℤ w_at s.corners here) *ℤ pos 65535) q r → (m : ℕ) × (q ≡ pos m) × (m ≤ 65535) × (Some m ≡ depth_at s.corners here)
      depth_here {q} {r} carry =
          let found = depth_as_kept (z_at s.corners here) (w_at s.corners here) (sym (quotient_carried carry)) refl divisor_is some_w z_low z_high in
          (found.0, found.1, found.2, some_depth s.corners here refl refl (kept_true _ _ some_w z_low z_high) found.3)

      -- and a carried value is the value
      value_is : (a b c : ℤ) {q r : ℤ} → IsCarry t.whole (weighted here a b c) q r → q ≡ mean here a b c
      unfolding mean
      value_is a b c carry = sym (ap (λ (z : ℤ). int_div_euclid (weighted here a b c) z) whole_is ∙ quotient_carried carry)

      value_within : (a b c : ℤ) {q r : ℤ} → IsCarry t.whole (weighted here a b c) q r → IsWithin (2 ^ 27) a → IsWithin (2 ^ 27) b → IsWithin (2 ^ 27) c → IsWithin (2 ^ 27) q
      value_within a b c carry near_a near_b near_c =
          let none = covered_not_negative s.corners s.view x y covered in
          mean_within here none.from_one none.from_two none.from_three a b c (sym (quotient_carried carry)) refl (sym whole_is) (2 ^ 27) some_whole near_a near_b near_c

      module _ (ten : HaveTenValues s.corners) (few : moving ≤ 10) (c : Carries) (carried : AreCarries t.whole moving (sum_at s.corners here) c) where
        pub values_near : (k : ℕ) → k < moving → IsWithin (2 ^ 27) (number_at c.values k)
        values_near k below =
            value_within _ _ _ (carried.each k below)
            (shape.corners_hold.one.carried k (pos 0) (let size = ten.first_ten in omega arith))
            (shape.corners_hold.two.carried k (pos 0) (let size = ten.second_ten in omega arith))
            (shape.corners_hold.three.carried k (pos 0) (let size = ten.third_ten in omega arith))

        module _ (same : AreSameFrom s.corners moving) (others : (k : ℕ) → moving ≤ k → number_at c.values k ≡ number_at (corner s.corners 0).values k) (size : length c.values ≡ 10) where
          each_value : (k : ℕ) → k < 10 → number_at c.values k ≡ mean here (number_at (corner s.corners 0).values k) (number_at (corner s.corners 1).values k) (number_at (corner s.corners 2).values k)
          each_value k below =
              by_lt_z (pos k) (pos moving)
              (λ moves. value_is _ _ _ (carried.each k (omega (arith, ints))))
              (λ stays.
              let from : moving ≤ k = omega (arith, ints) in
              let both = same k from below in
              others k from ∙ sym (mean_kept here refl (sym both.0) (sym both.1) ∙ mean-same here (number_at (corner s.corners 0).values k) some_whole))

          pub values_are_means : c.values ≡ means here (corner s.corners 0).values (corner s.corners 1).values (corner s.corners 2).values
          values_are_means =
              means_from_each here _ _ _ c.values (ten.first_ten ∙ sym size) (ten.second_ten ∙ sym size) (ten.third_ten ∙ sym size)
              (λ k below. each_value k (subst (λ (n : ℕ). k < n) size below))

  pub depth_next : (x y : ℤ) →
      (z_at s.corners (weights_of s.corners s.view x y) +ℤ w_at s.corners (weights_of s.corners s.view x y)) *ℤ pos 65535 +ℤ (z_at s.corners (rises_of s) +ℤ pos 0) *ℤ pos 65535
      ≡ (z_at s.corners (weights_of s.corners s.view (x +ℤ pos 1) y) +ℤ w_at s.corners (weights_of s.corners s.view (x +ℤ pos 1) y)) *ℤ pos 65535
  depth_next x y =
      let now = divisor_is x y in
      let next = divisor_is (x +ℤ pos 1) y in
      let rise = z_at-risen s shape x y in
      omega (arith, ints)

pub not_both : {A : Type 0} (b : Bool) → b ≡ true → b ≡ false → A
not_both true e h = cc
not_both false e h = cc

pub depth_number_kept : {a b a' b' : ℤ} → a' ≡ a → b' ≡ b → (a' +ℤ b') *ℤ pos 65535 ≡ (a +ℤ b) *ℤ pos 65535
depth_number_kept {a} {b} {a'} {b'} e h =
    ap (λ (z : ℤ). (z +ℤ b') *ℤ pos 65535) e ∙ ap (λ (z : ℤ). (a +ℤ z) *ℤ pos 65535) h
