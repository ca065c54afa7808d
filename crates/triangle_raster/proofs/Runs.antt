-- Rows of fragments that are alike.
use Rattle.std.proofs.Common.{◌≡◌, ℕ, zero, suc, ◌<◌, true, ℤ, pos, ◌+ℤ◌, ◌<ℤ◌, List, [], ◌∷◌, length, Option, Some, None, refl, sym, ap, subst, ◌∙◌, arith}
use Rattle.std.specs.List.{cons_option}
use Rattle.std.proofs.lemmas.Int.{ints}
use Rattle.triangle_raster.specs.declared.fragment.Fragment.{Fragment}
use Rattle.triangle_raster.specs.declared.shape.Shape.{Shape}
use Rattle.triangle_raster.specs.declared.sums.Sums.{Sums}
use Rattle.triangle_raster.specs.declared.walk.Walk.{Walk}
use Rattle.triangle_raster.specs.declared.columns.Columns.{Columns}
use Rattle.triangle_raster.specs.Vertex.{corner}
use Rattle.triangle_raster.specs.Pixel.{Weights, is_covered, means, weights_of}
use Rattle.triangle_raster.specs.Ranges.{number_at}
use Rattle.triangle_raster.specs.Row.{numbers_from, pixels_at, run_of}
use Rattle.triangle_raster.specs.Held.{alike_at, alike_from, depth_at, walk_seen, AreColumns, AreSameFrom, HaveTenValues, IsLevel, IsShape, IsWalk}
use Rattle.triangle_raster.proofs.Fragments.{fragment_from_depth, mean_kept, no_fragment_without_depth, pixel_of-covered, some_weight_from_depth}
use Rattle.triangle_raster.proofs.Levels.{depth_at-level}
use Rattle.triangle_raster.proofs.Means.{means_from_each}
use Rattle.triangle_raster.proofs.Ranges.{covered_not_negative, mean-same}

-- the means of values that are the same at the three corners
pub means-same : (w : Weights) → pos 0 <ℤ (w.one +ℤ w.two +ℤ w.three) → (a b c : List ℤ) → length a ≡ 10 → length b ≡ 10 → length c ≡ 10 →
    ((k : ℕ) → k < 10 → (number_at a k ≡ number_at b k) × (number_at a k ≡ number_at c k)) → a ≡ means w a b c
means-same w some a b c size_a size_b size_c same =
    means_from_each w a b c a refl (size_b ∙ sym size_a) (size_c ∙ sym size_a)
    (λ k below.
    let both = same k (omega arith) in
    sym (mean_kept w refl (sym both.0) (sym both.1) ∙ mean-same w (number_at a k) some))

-- the weights at a centre as sums
abbrev sums_of : Weights → Sums
sums_of w = record { one = w.one; two = w.two; three = w.three }

module _ (s : Shape) (shape : IsShape s) (level : IsLevel s) (y : ℤ) where
  next_depth_is : (x : ℤ) → depth_at s.corners (weights_of s.corners s.view (x +ℤ pos 1) y) ≡ depth_at s.corners (weights_of s.corners s.view x y)
  next_depth_is x =
      depth_at-level s shape x y (sums_of (weights_of s.corners s.view x y)) (sums_of (weights_of s.corners s.view (x +ℤ pos 1) y)) refl refl level

  abbrev AreCovered : ℤ → ℕ → Type 0
  AreCovered x n = (k : ℕ) → k < n → is_covered s.corners s.view (x +ℤ pos k) y ≡ true

  first_covered : (x : ℤ) (n : ℕ) → AreCovered x (suc n) → is_covered s.corners s.view x y ≡ true
  first_covered x n h = subst (λ (z : ℤ). is_covered s.corners s.view z y ≡ true) (omega (arith, ints)) (h 0 (omega arith))

  rest_covered : (x : ℤ) (n : ℕ) → AreCovered x (suc n) → AreCovered (x +ℤ pos 1) n
  rest_covered x n h = λ k below. subst (λ (z : ℤ). is_covered s.corners s.view z y ≡ true) (omega (arith, ints)) (h (suc k) (omega arith))

  -- without a depth there is no pixel
  pub none_left : (n : ℕ) (x : ℤ) → AreCovered x n → depth_at s.corners (weights_of s.corners s.view x y) ≡ None → pixels_at s.corners s.view y (numbers_from x n) ≡ []
  none_left zero x covered e = refl
  none_left (suc n) x covered e =
      ap (λ (o : Option Fragment). cons_option o (pixels_at s.corners s.view y (numbers_from (x +ℤ pos 1) n)))
      (pixel_of-covered s.corners s.view x y shape.not_flat (first_covered x n covered) ∙ sym (no_fragment_without_depth s.corners _ x y e))
      ∙ none_left n (x +ℤ pos 1) (rest_covered x n covered) (next_depth_is x ∙ e)

  -- with one, and the same values at the corners, all are alike
  module _ (values : List ℤ) (means_are : (w : Weights) → pos 0 <ℤ (w.one +ℤ w.two +ℤ w.three) → values ≡ means w (corner s.corners 0).values (corner s.corners 1).values (corner s.corners 2).values) (d : ℕ) where
    abbrev like : ℤ → Fragment
    like x = record { x = x; y = y; depth = d; values = values }

    pub run_left : (n : ℕ) (x : ℤ) → AreCovered x n → depth_at s.corners (weights_of s.corners s.view x y) ≡ Some d → pixels_at s.corners s.view y (numbers_from x n) ≡ run_of (like x) n
    run_left zero x covered e = refl
    run_left (suc n) x covered e =
        let here = first_covered x n covered in
        let none = covered_not_negative s.corners s.view x y here in
        let some = some_weight_from_depth s.corners (weights_of s.corners s.view x y) d e none.from_one none.from_two none.from_three in
        ap (λ (o : Option Fragment). cons_option o (pixels_at s.corners s.view y (numbers_from (x +ℤ pos 1) n)))
        (pixel_of-covered s.corners s.view x y shape.not_flat here
        ∙ sym (fragment_from_depth s.corners (weights_of s.corners s.view x y) d e x y refl refl (means_are (weights_of s.corners s.view x y) some)))
        ∙ ap (λ (fs : List Fragment). like x ∷ fs) (run_left n (x +ℤ pos 1) (rest_covered x n covered) (next_depth_is x ∙ e))

-- columns of a row whose depth and values are the same in every column
module _ (s : Shape) (shape : IsShape s) (level : IsLevel s) (ten : HaveTenValues s.corners) (same : AreSameFrom s.corners 0) (y : ℤ) (c : Columns) (are : AreColumns s y c) (found : Option ℕ)
    (depth : 0 < c.left → found ≡ depth_at s.corners (weights_of s.corners s.view c.x y)) where
  covered_same : (n : ℕ) → n ≡ c.left → (k : ℕ) → k < n → is_covered s.corners s.view (c.x +ℤ pos k) y ≡ true
  covered_same n h k below = are.each_covered k (subst (λ (m : ℕ). k < m) h below)

  some_columns : (d : ℕ) → found ≡ Some d → (n : ℕ) → n ≡ c.left → pixels_at s.corners s.view y (numbers_from c.x n) ≡ run_of (alike_from s y c.x d) n
  some_columns d is zero h = refl
  some_columns d is (suc n) h =
      run_left s shape level y (corner s.corners 0).values
      (λ w some. means-same w some _ _ _ ten.first_ten ten.second_ten ten.third_ten (λ k below. same k (omega arith) below))
      d (suc n) c.x (covered_same (suc n) h) (sym (depth (omega arith)) ∙ is)

  no_columns : found ≡ None → (n : ℕ) → n ≡ c.left → pixels_at s.corners s.view y (numbers_from c.x n) ≡ []
  no_columns is zero h = refl
  no_columns is (suc n) h = none_left s shape level y (suc n) c.x (covered_same (suc n) h) (sym (depth (omega arith)) ∙ is)

  pub run_of_columns : {d : ℕ} {f : Fragment} {count : ℕ} → found ≡ Some d → f ≡ alike_from s y c.x d → count ≡ c.left → pixels_at s.corners s.view y (numbers_from c.x c.left) ≡ run_of f count
  run_of_columns {d} {f} {count} is first all =
      some_columns d is c.left refl ∙ sym (ap (λ (g : Fragment). run_of g count) first ∙ ap (λ (n : ℕ). run_of (alike_from s y c.x d) n) all)

  pub no_run_of_columns : (f : Fragment) {count : ℕ} → found ≡ None → count ≡ 0 → pixels_at s.corners s.view y (numbers_from c.x c.left) ≡ run_of f count
  no_run_of_columns f {count} is none = no_columns is c.left refl ∙ sym (ap (λ (n : ℕ). run_of f n) none)

-- a walk whose depth and values are the same in every column
module _ (r : Walk) (holds : IsWalk r) (level : IsLevel r.shape) where
  depth_seen : {found : Option ℕ} → 0 < r.left → r.found ≡ found → depth_at r.shape.corners (weights_of r.shape.corners r.shape.view r.x r.y) ≡ found
  depth_seen {found} some e = sym (holds.next_holds some).depth_holds ∙ e

  none_cases : (n : ℕ) → n ≡ r.left → r.found ≡ None → pixels_at r.shape.corners r.shape.view r.y (numbers_from r.x n) ≡ []
  none_cases zero h e = refl
  none_cases (suc n) h e =
      none_left r.shape holds.shape_holds level r.y (suc n) r.x (λ k below. holds.all_covered k (subst (λ (m : ℕ). k < m) h below)) (depth_seen (omega arith) e)

  pub no_run : (f : Fragment) {count : ℕ} → r.found ≡ None → count ≡ 0 → walk_seen r ≡ run_of f count
  no_run f {count} e none = none_cases r.left refl e ∙ sym (ap (λ (n : ℕ). run_of f n) none)

  module _ (ten : HaveTenValues r.shape.corners) (still : r.rates.moving ≡ 0) (d : ℕ) (found : r.found ≡ Some d) where
    run_cases : (n : ℕ) → n ≡ r.left → pixels_at r.shape.corners r.shape.view r.y (numbers_from r.x n) ≡ run_of (alike_at r d) n
    run_cases zero h = refl
    run_cases (suc n) h =
        run_left r.shape holds.shape_holds level r.y (corner r.shape.corners 0).values
        (λ w some. means-same w some _ _ _ ten.first_ten ten.second_ten ten.third_ten (λ k below. holds.rates_hold.others_same k (omega arith) below))
        d (suc n) r.x (λ k below. holds.all_covered k (subst (λ (m : ℕ). k < m) h below)) (depth_seen (omega arith) found)

    pub run_is : {f : Fragment} {count : ℕ} → f ≡ alike_at r d → count ≡ r.left → walk_seen r ≡ run_of f count
    run_is {f} {count} first all =
        run_cases r.left refl ∙ sym (ap (λ (g : Fragment). run_of g count) first ∙ ap (λ (n : ℕ). run_of (alike_at r d) n) all)
