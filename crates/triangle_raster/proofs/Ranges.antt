-- Fragments lie in the area, and their values among those of the corners.
use Rattle.std.proofs.Common.{◌≡◌, ℕ, zero, suc, ◌<◌, Bool, true, false, ◌&&◌, ℤ, pos, negsuc, ◌+ℤ◌, ◌-ℤ◌, ◌*ℤ◌, ◌<ℤ◌, ◌≤ℤ◌, List, [], ◌∷◌, Option, Some, None, All, length, refl, sym, subst, ap, arith}
use Rattle.std.specs.Prelude.{int_le, int_lt, if◌then◌else◌}
use Rattle.std.specs.Int.{int_div_euclid}
use Rattle.std.specs.List.{cons_option}
use Rattle.std.proofs.lemmas.Int.{ints}
use Rattle.std.proofs.lemmas.List.Elements.{All-cons, All-nil}
use Rattle.triangle_raster.specs.declared.vertex.Vertex.{Vertex}
use Rattle.triangle_raster.specs.declared.vertex.View.{View}
use Rattle.triangle_raster.specs.declared.vertex.Area.{Area}
use Rattle.triangle_raster.specs.declared.fragment.Fragment.{Fragment}
use Rattle.triangle_raster.specs.Vertex.{Vector, corner, value_at}
use Rattle.triangle_raster.specs.Pixel.{Weights, above_or, is_covered, kept_fragment, mean, means, passes, pixel_of, w_at, weighted, weights_of}
use Rattle.triangle_raster.specs.Row.{Triangle, count_of, numbers_from, pixels_at}
use Rattle.triangle_raster.specs.Ranges.{FragmentsLieInArea, HasValuesAmong, LiesAmong, LiesInArea, ValuesLieAmongCorners, number_at}
use Rattle.triangle_raster.proofs.WholeNumbers.{product-sum, product_swapped}
use Rattle.triangle_raster.proofs.Quotients.{lesser_factor, product_rises, quotient_high, quotient_is, quotient_low}
use Rattle.triangle_raster.proofs.Means.{some_weight}
use Rattle.triangle_raster.proofs.Fragments.{all_true, between_from_test}

-- ---- the tests that a pixel passed
not_negative_from_test : (z : ℤ) (next : Bool) → above_or z next ≡ true → pos 0 ≤ℤ z
not_negative_from_test (pos n) next e = omega (arith, ints)
not_negative_from_test (negsuc n) next e = cc

pub passes_not_negative : (edge p : Vector) → passes edge p ≡ true → pos 0 ≤ℤ value_at edge p
unfolding passes
passes_not_negative edge p e = not_negative_from_test _ _ e

-- no weight is below zero
pub record NoneIsNegative (w : Weights) : Type 0 where
  pub from_one : pos 0 ≤ℤ w.one
  pub from_two : pos 0 ≤ℤ w.two
  pub from_three : pos 0 ≤ℤ w.three

pub covered_not_negative : (corners : List Vertex) (view : View) (x y : ℤ) → is_covered corners view x y ≡ true → NoneIsNegative (weights_of corners view x y)
unfolding is_covered weights_of
covered_not_negative corners view x y e =
    let all = all_true _ _ _ e in
    record {
      from_one = passes_not_negative _ _ all.0;
      from_two = passes_not_negative _ _ all.1;
      from_three = passes_not_negative _ _ all.2;
    }

-- what a pixel that is not none was made of
pub record IsPixel (corners : List Vertex) (view : View) (x y : ℤ) (f : Fragment) : Type 0 where
  pub column : f.x ≡ x
  pub line : f.y ≡ y
  pub carried : f.values ≡ means (weights_of corners view x y) (corner corners 0).values (corner corners 1).values (corner corners 2).values
  pub none_negative : NoneIsNegative (weights_of corners view x y)
  pub some : pos 0 <ℤ ((weights_of corners view x y).one +ℤ (weights_of corners view x y).two +ℤ (weights_of corners view x y).three)

same_fragment_of : {f g : Fragment} → Some f ≡ Some g → f ≡ g
same_fragment_of e = cc

then_some : (test : Bool) (f g : Fragment) → (if test then Some f else None) ≡ Some g → (test ≡ true) × (f ≡ g)
then_some true f g e = (refl, same_fragment_of e)
then_some false f g e = cc

then_covered : (flat covered : Bool) (found : Option Fragment) (f : Fragment) → (if flat then None else (if covered then found else None)) ≡ Some f → (covered ≡ true) × (found ≡ Some f)
then_covered false true found f e = (refl, e)
then_covered false false found f e = cc
then_covered true covered found f e = cc

module _ (corners : List Vertex) (view : View) (x y : ℤ) (f : Fragment) where
  some_w : NoneIsNegative (weights_of corners view x y) → pos 0 <ℤ w_at corners (weights_of corners view x y) →
      pos 0 <ℤ ((weights_of corners view x y).one +ℤ (weights_of corners view x y).two +ℤ (weights_of corners view x y).three)
  unfolding w_at
  some_w none h = some_weight (weights_of corners view x y) none.from_one none.from_two none.from_three _ _ _ h

  kept_is_pixel : is_covered corners view x y ≡ true → kept_fragment corners (weights_of corners view x y) x y ≡ Some f → IsPixel corners view x y f
  unfolding kept_fragment
  kept_is_pixel covered e =
      let none = covered_not_negative corners view x y covered in
      let both = then_some _ _ _ e in
      record {
        column = sym (ap (λ (g : Fragment). g.x) both.1);
        line = sym (ap (λ (g : Fragment). g.y) both.1);
        carried = sym (ap (λ (g : Fragment). g.values) both.1);
        none_negative = none;
        some = some_w none (between_from_test _ _ both.0).0;
      }

  pub some_is_pixel : pixel_of corners view x y ≡ Some f → IsPixel corners view x y f
  unfolding pixel_of
  some_is_pixel e = let both = then_covered _ _ _ _ e in kept_is_pixel both.0 both.1

-- ---- values
-- a number, given three times
module _ (w : Weights) (z : ℤ) where
  pub weighted-same : weighted w z z z ≡ (w.one +ℤ w.two +ℤ w.three) *ℤ z
  unfolding weighted
  weighted-same =
      omega (arith, ints, product_swapped (w.one +ℤ w.two +ℤ w.three) z, product-sum z (w.one +ℤ w.two) w.three, product-sum z w.one w.two)

  pub mean-same : pos 0 <ℤ (w.one +ℤ w.two +ℤ w.three) → mean w z z z ≡ z
  unfolding mean
  mean-same some =
      let same = weighted-same in
      quotient_is (weighted w z z z) (w.one +ℤ w.two +ℤ w.three) z some (omega (arith, ints)) (omega (arith, ints))

-- a weighted sum from below and from above
module _ (w : Weights) (none : NoneIsNegative w) (a b c : ℤ) where
  pub from_low : (low : ℤ) → low ≤ℤ a → low ≤ℤ b → low ≤ℤ c → ((w.one +ℤ w.two +ℤ w.three) *ℤ low) ≤ℤ weighted w a b c
  unfolding weighted
  from_low low h k l =
      let first = product_rises w.one low a none.from_one h in
      let second = product_rises w.two low b none.from_two k in
      let third = product_rises w.three low c none.from_three l in
      let same : w.one *ℤ low +ℤ w.two *ℤ low +ℤ w.three *ℤ low ≡ (w.one +ℤ w.two +ℤ w.three) *ℤ low = weighted-same w low in
      omega (arith, ints)

  pub to_high : (high : ℤ) → a ≤ℤ high → b ≤ℤ high → c ≤ℤ high → weighted w a b c ≤ℤ ((w.one +ℤ w.two +ℤ w.three) *ℤ high)
  unfolding weighted
  to_high high h k l =
      let first = product_rises w.one a high none.from_one h in
      let second = product_rises w.two b high none.from_two k in
      let third = product_rises w.three c high none.from_three l in
      let same : w.one *ℤ high +ℤ w.two *ℤ high +ℤ w.three *ℤ high ≡ (w.one +ℤ w.two +ℤ w.three) *ℤ high = weighted-same w high in
      omega (arith, ints)

  pub mean_lies_among : pos 0 <ℤ (w.one +ℤ w.two +ℤ w.three) → LiesAmong a b c (mean w a b c)
  unfolding mean
  mean_lies_among some = λ low high h k l.
      let whole : ℤ = w.one +ℤ w.two +ℤ w.three in
      let sum : ℤ = weighted w a b c in
      let below = quotient_low sum whole some in
      let above = quotient_high sum whole some in
      let least = from_low low h.0 k.0 l.0 in
      let greatest = to_high high h.1 k.1 l.1 in
      (lesser_factor whole low (int_div_euclid sum whole) some (omega (arith, ints)), lesser_factor whole (int_div_euclid sum whole) high some (omega (arith, ints)))

means_lie_among : (w : Weights) → NoneIsNegative w → pos 0 <ℤ (w.one +ℤ w.two +ℤ w.three) → (firsts seconds thirds : List ℤ) (k : ℕ) → k < length (means w firsts seconds thirds) →
    LiesAmong (number_at firsts k) (number_at seconds k) (number_at thirds k) (number_at (means w firsts seconds thirds) k)
means_lie_among w none some (a ∷ firsts) (b ∷ seconds) (c ∷ thirds) zero h = mean_lies_among w none a b c some
means_lie_among w none some (a ∷ firsts) (b ∷ seconds) (c ∷ thirds) (suc k) h = means_lie_among w none some firsts seconds thirds k (omega arith)
means_lie_among w none some [] seconds thirds k h = absurd (omega arith)
means_lie_among w none some (a ∷ firsts) [] thirds k h = absurd (omega arith)
means_lie_among w none some (a ∷ firsts) (b ∷ seconds) [] k h = absurd (omega arith)

pixel_has_values : {corners : List Vertex} {view : View} {x y : ℤ} {f : Fragment} → IsPixel corners view x y f → HasValuesAmong corners f
pixel_has_values {corners} {view} {x} {y} {f} pixel = λ k h.
    subst
    (λ (vs : List ℤ). k < length vs → LiesAmong (number_at (corner corners 0).values k) (number_at (corner corners 1).values k) (number_at (corner corners 2).values k) (number_at vs k))
    (sym pixel.carried)
    (means_lie_among _ pixel.none_negative pixel.some _ _ _ k)
    h

-- ---- rows
All-cons_option : (P : Fragment → Type 0) (found : Option Fragment) (fs : List Fragment) → ((f : Fragment) → found ≡ Some f → P f) → All P fs → All P (cons_option found fs)
All-cons_option P (Some f) fs h all = All-cons P f fs (h f refl) all
All-cons_option P None fs h all = all

-- what holds of the pixel of every column from x on holds of every fragment
module _ (corners : List Vertex) (view : View) (y : ℤ) (P : Fragment → Type 0) where
  all_pixels : (x : ℤ) (n : ℕ) → ((k : ℕ) → k < n → (f : Fragment) → IsPixel corners view (x +ℤ pos k) y f → P f) → All P (pixels_at corners view y (numbers_from x n))
  all_pixels x zero h = All-nil P
  all_pixels x (suc n) h =
      All-cons_option P (pixel_of corners view x y) _
      (λ f e. h 0 (omega arith) f (subst (λ (z : ℤ). IsPixel corners view z y f) (omega (arith, ints)) (some_is_pixel corners view x y f e)))
      (all_pixels (x +ℤ pos 1) n
      (λ k below f pixel. h (suc k) (omega arith) f (subst (λ (z : ℤ). IsPixel corners view z y f) (omega (arith, ints)) pixel)))

-- a column of the area
before_end : (left right : ℤ) (k : ℕ) (z : ℤ) → z ≡ right -ℤ left → k < count_of z → (left +ℤ pos k) <ℤ right
before_end left right k (pos n) e h = omega (arith, ints)
before_end left right k (negsuc n) e h = absurd (omega arith)

both_true : (a b : Bool) → (a && b) ≡ true → (a ≡ true) × (b ≡ true)
both_true true true e = (refl, refl)
both_true true false e = cc
both_true false b e = cc

all_fragments_by : (t : Triangle) (y : ℤ) (P : Fragment → Type 0) (inside : Bool) →
    (inside ≡ true → (k : ℕ) → k < count_of (t.area.right -ℤ t.area.left) → (f : Fragment) → IsPixel t.corners t.view (t.area.left +ℤ pos k) y f → P f) →
    All P (pixels_at t.corners t.view y (if inside then numbers_from t.area.left (count_of (t.area.right -ℤ t.area.left)) else []))
all_fragments_by t y P true h = all_pixels t.corners t.view y P t.area.left (count_of (t.area.right -ℤ t.area.left)) (h refl)
all_fragments_by t y P false h = All-nil P

row_test : (area : Area) (y : ℤ) → (int_le area.bottom y && int_lt y area.top) ≡ true → (area.bottom ≤ℤ y) × (y <ℤ area.top)
row_test area y e =
    let both = both_true (int_le area.bottom y) (int_lt y area.top) e in
    let low : int_le area.bottom y ≡ true = both.0 in
    let high : int_lt y area.top ≡ true = both.1 in
    (omega (arith, ints), omega (arith, ints))

-- every fragment of a row lies in the area
pub fragments_lie_in_area : (t : Triangle) (y : ℤ) → FragmentsLieInArea t y
fragments_lie_in_area t y =
    all_fragments_by t y (LiesInArea t.area) (int_le t.area.bottom y && int_lt y t.area.top)
    (λ inside k below f pixel.
    let row = row_test t.area y inside in
    let end = before_end t.area.left t.area.right k _ refl below in
    let column = pixel.column in
    let line = pixel.line in
    record {
      from_left = omega (arith, ints);
      before_right = omega (arith, ints);
      from_bottom = omega (arith, ints);
      before_top = omega (arith, ints);
    })

-- every value of every fragment lies among those of the corners
pub values_lie_among_corners : (t : Triangle) (y : ℤ) → ValuesLieAmongCorners t y
values_lie_among_corners t y =
    all_fragments_by t y (HasValuesAmong t.corners) (int_le t.area.bottom y && int_lt y t.area.top)
    (λ inside k below f pixel. pixel_has_values pixel)
