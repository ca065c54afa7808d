-- The depth of a triangle whose corners have one z and one w is that of a corner at each centre that it covers.
use Rattle.std.proofs.Common.{◌≡◌, ℕ, Bool, true, false, ℤ, pos, neg_ℤ, ◌+ℤ◌, ◌*ℤ◌, ◌<ℤ◌, ◌≤ℤ◌, ◌<◌, inl, inr, List, Some, None, unsigned_abs, refl, sym, ap, subst, ◌∙◌, arith}
use Rattle.std.specs.Prelude.{int_le, int_lt, ◌&&◌, if◌then◌else◌}
use Rattle.std.specs.Int.{int_div_euclid}
use Rattle.std.proofs.lemmas.Bool.{cases_Bool}
use Rattle.std.proofs.lemmas.Int.{ints}
use Rattle.triangle_raster.specs.declared.vertex.Vertex.{Vertex}
use Rattle.triangle_raster.specs.declared.shape.Shape.{Shape}
use Rattle.triangle_raster.specs.declared.columns.Columns.{Columns}
use Rattle.triangle_raster.specs.Vertex.{corner}
use Rattle.triangle_raster.specs.Pixel.{Weights, depth_of, is_covered, is_kept, w_at, weights_of, z_at}
use Rattle.triangle_raster.specs.Held.{depth_at, even_depth, AreColumns, IsShape}
use Rattle.triangle_raster.proofs.WholeNumbers.{product-negative, product-product, product-sum, product_swapped}
use Rattle.triangle_raster.proofs.Quotients.{lesser_factor, product_rises, quotient_high, quotient_is, quotient_low}
use Rattle.triangle_raster.proofs.Fragments.{between_from_test, some_depth, none_depth, weighted_kept}
use Rattle.triangle_raster.proofs.Ranges.{weighted-same}
use Rattle.triangle_raster.proofs.Heights.{some_weights_covered}

-- what the code finds
pub even_depth-some : (z w : ℤ) {d : ℕ} → is_kept z w ≡ true → d ≡ depth_of z w → Some d ≡ even_depth z w
unfolding even_depth
even_depth-some z w {d} t e = ap (λ (n : ℕ). Some n) e ∙ sym (ap (λ (b : Bool). if b then Some (depth_of z w) else None) t)

pub even_depth-none : (z w : ℤ) → is_kept z w ≡ false → None ≡ even_depth z w
unfolding even_depth
even_depth-none z w t = sym (ap (λ (b : Bool). if b then Some (depth_of z w) else None) t)

pub even_depth-kept : {z w z' w' : ℤ} → z' ≡ z → w' ≡ w → even_depth z' w' ≡ even_depth z w
even_depth-kept {z} {w} {z'} {w'} p q = ap (λ (k : ℤ). even_depth k w') p ∙ ap (λ (k : ℤ). even_depth z k) q

test_from_between : (z w : ℤ) → pos 0 <ℤ w → neg_ℤ w ≤ℤ z → z ≤ℤ w → is_kept z w ≡ true
unfolding is_kept
test_from_between z w h k l =
    let first : int_lt (pos 0) w ≡ true = grind (arith, ints) in
    let second : int_le (neg_ℤ w) z ≡ true = grind (arith, ints) in
    let third : int_le z w ≡ true = grind (arith, ints) in
    ap (λ (b : Bool). b && (int_le (neg_ℤ w) z && int_le z w)) first
    ∙ ap (λ (b : Bool). true && (b && int_le z w)) second
    ∙ ap (λ (b : Bool). true && (true && b)) third

never : false ≡ true → ⊥
never e = cc

not_kept : (b : Bool) → (b ≡ true → ⊥) → b ≡ false
not_kept true h = absurd (h refl)
not_kept false h = refl

-- ---- z and w, each times a number above zero
module _ (n z w : ℤ) (some : pos 0 <ℤ n) where
  turned : n *ℤ neg_ℤ w ≡ neg_ℤ (n *ℤ w)
  turned = product-negative n w

  kept_times : is_kept z w ≡ true → is_kept (n *ℤ z) (n *ℤ w) ≡ true
  kept_times t =
      let between = between_from_test z w t in
      let more : (n *ℤ pos 1) ≤ℤ (n *ℤ w) = product_rises n (pos 1) w (omega (arith, ints)) (let positive : pos 0 <ℤ w = between.0 in omega (arith, ints)) in
      let low : (n *ℤ neg_ℤ w) ≤ℤ (n *ℤ z) = product_rises n (neg_ℤ w) z (omega (arith, ints)) between.1 in
      let high : (n *ℤ z) ≤ℤ (n *ℤ w) = product_rises n z w (omega (arith, ints)) between.2 in
      let same = turned in
      test_from_between (n *ℤ z) (n *ℤ w) (omega (arith, ints)) (omega (arith, ints)) high

  kept_over : is_kept (n *ℤ z) (n *ℤ w) ≡ true → is_kept z w ≡ true
  kept_over t =
      let between = between_from_test (n *ℤ z) (n *ℤ w) t in
      let positive : pos 0 <ℤ (n *ℤ w) = between.0 in
      let from : neg_ℤ (n *ℤ w) ≤ℤ (n *ℤ z) = between.1 in
      let to : (n *ℤ z) ≤ℤ (n *ℤ w) = between.2 in
      let same = turned in
      let low : neg_ℤ w ≤ℤ z = lesser_factor n (neg_ℤ w) z some (omega (arith, ints)) in
      let high : z ≤ℤ w = lesser_factor n z w some (omega (arith, ints)) in
      let one : pos 1 ≤ℤ w = lesser_factor n (pos 1) w some (omega (arith, ints)) in
      test_from_between z w (omega (arith, ints)) low high

  -- the divisor and the dividend
  divided : n *ℤ (pos 2 *ℤ w) ≡ pos 2 *ℤ (n *ℤ w)
  divided = sym (product-product n (pos 2) w) ∙ ap (λ (k : ℤ). k *ℤ w) (product_swapped n (pos 2)) ∙ product-product (pos 2) n w

  summed : n *ℤ ((z +ℤ w) *ℤ pos 65535) ≡ (n *ℤ z +ℤ n *ℤ w) *ℤ pos 65535
  summed = sym (product-product n (z +ℤ w) (pos 65535)) ∙ ap (λ (k : ℤ). k *ℤ pos 65535) (product-sum n z w)

  quotient_times : (s t : ℤ) → pos 0 <ℤ t → int_div_euclid (n *ℤ s) (n *ℤ t) ≡ int_div_euclid s t
  quotient_times s t h =
      let q : ℤ = int_div_euclid s t in
      let more : (n *ℤ pos 1) ≤ℤ (n *ℤ t) = product_rises n (pos 1) t (omega (arith, ints)) (omega (arith, ints)) in
      let low : (n *ℤ (t *ℤ q)) ≤ℤ (n *ℤ s) = product_rises n (t *ℤ q) s (omega (arith, ints)) (quotient_low s t h) in
      let own : s <ℤ (t *ℤ q +ℤ t) = quotient_high s t h in
      let high : (n *ℤ (s +ℤ pos 1)) ≤ℤ (n *ℤ (t *ℤ q +ℤ t)) = product_rises n (s +ℤ pos 1) (t *ℤ q +ℤ t) (omega (arith, ints)) (omega (arith, ints)) in
      let next = product-sum n s (pos 1) in
      let both = product-sum n (t *ℤ q) t in
      let same = product-product n t q in
      quotient_is (n *ℤ s) (n *ℤ t) q (omega (arith, ints)) (omega (arith, ints)) (omega (arith, ints))

  depth_times : pos 0 <ℤ w → depth_of z w ≡ depth_of (n *ℤ z) (n *ℤ w)
  unfolding depth_of
  depth_times h =
      ap unsigned_abs
      (sym (quotient_times ((z +ℤ w) *ℤ pos 65535) (pos 2 *ℤ w) (omega (arith, ints)))
      ∙ ap (λ (k : ℤ). int_div_euclid k (n *ℤ (pos 2 *ℤ w))) summed
      ∙ ap (λ (k : ℤ). int_div_euclid ((n *ℤ z +ℤ n *ℤ w) *ℤ pos 65535) k) divided)

-- ---- corners with one z and one w
module _ (corners : List Vertex) (w : Weights) (some : pos 0 <ℤ (w.one +ℤ w.two +ℤ w.three)) {z d : ℤ}
    (z_one : z ≡ (corner corners 0).z) (z_two : z ≡ (corner corners 1).z) (z_three : z ≡ (corner corners 2).z)
    (w_one : d ≡ (corner corners 0).w) (w_two : d ≡ (corner corners 1).w) (w_three : d ≡ (corner corners 2).w) where
  z_is : (w.one +ℤ w.two +ℤ w.three) *ℤ z ≡ z_at corners w
  unfolding z_at
  z_is = sym (weighted-same w z) ∙ weighted_kept w z_one z_two z_three

  w_is : (w.one +ℤ w.two +ℤ w.three) *ℤ d ≡ w_at corners w
  unfolding w_at
  w_is = sym (weighted-same w d) ∙ weighted_kept w w_one w_two w_three

  pub even_is : even_depth z d ≡ depth_at corners w
  even_is =
      elim (cases_Bool (is_kept z d)) [
        | inl kept ↦
            sym (even_depth-some z d kept refl)
            ∙ some_depth corners w z_is w_is (kept_times (w.one +ℤ w.two +ℤ w.three) z d some kept)
            (depth_times (w.one +ℤ w.two +ℤ w.three) z d some (between_from_test z d kept).0)
        | inr out ↦
            sym (even_depth-none z d out)
            ∙ none_depth corners w z_is w_is (not_kept _ (λ t. never (sym out ∙ kept_over (w.one +ℤ w.two +ℤ w.three) z d some t)))
      ]

-- at the first of some columns that are covered
module _ (s : Shape) (shape : IsShape s) (y : ℤ) (c : Columns) (are : AreColumns s y c) where
  pub even_in : {z d : ℤ} → z ≡ (corner s.corners 0).z → z ≡ (corner s.corners 1).z → z ≡ (corner s.corners 2).z → d ≡ (corner s.corners 0).w → d ≡ (corner s.corners 1).w → d ≡ (corner s.corners 2).w →
      0 < c.left → even_depth z d ≡ depth_at s.corners (weights_of s.corners s.view c.x y)
  even_in {z} {d} z_one z_two z_three w_one w_two w_three some =
      let covered : is_covered s.corners s.view c.x y ≡ true = subst (λ (k : ℤ). is_covered s.corners s.view k y ≡ true) (omega (arith, ints)) (are.each_covered 0 some) in
      even_is s.corners (weights_of s.corners s.view c.x y) (some_weights_covered s.corners s.view shape.not_flat c.x y covered) z_one z_two z_three w_one w_two w_three
