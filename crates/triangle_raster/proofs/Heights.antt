-- Where a triangle covers a centre, the centre is no higher than the highest corner: the centre, times the determinant of the corners, is the sum of the corners by weight.
use Rattle.std.proofs.Common.{◌≡◌, zero, suc, Bool, true, false, ℤ, pos, negsuc, ◌+ℤ◌, ◌*ℤ◌, neg_ℤ, ◌<ℤ◌, ◌≤ℤ◌, ◌⊎◌, inl, inr, List, Option, None, refl, sym, ap, ◌∙◌, arith}
use Rattle.std.specs.Prelude.{if◌then◌else◌}
use Rattle.std.proofs.lemmas.Bool.{cases_Bool}
use Rattle.std.proofs.lemmas.Int.{ints, by_lt_z}
use Rattle.triangle_raster.specs.declared.fragment.Fragment.{Fragment}
use Rattle.triangle_raster.specs.declared.vertex.Vertex.{Vertex}
use Rattle.triangle_raster.specs.declared.vertex.View.{View}
use Rattle.triangle_raster.specs.Vertex.{Vector, centre_of, edge_through, value_at}
use Rattle.triangle_raster.specs.Pixel.{Weights, delta_of, edge_of, inward, is_covered, is_zero, kept_fragment, pixel_of, place, weights_of}
use Rattle.triangle_raster.proofs.WholeNumbers.{difference-product, negative-product, product-product, product-sum, product_swapped, rotated_product}
use Rattle.triangle_raster.proofs.Quotients.{lesser_factor, product_rises}
use Rattle.triangle_raster.proofs.Edges.{inward-negative, inward-other}
use Rattle.triangle_raster.proofs.Ranges.{covered_not_negative}
use Rattle.triangle_raster.proofs.SharedEdges.{value_at-turned}

-- ---- the corners' parts by the coefficients of the edges across from them
module _ (a b c : Vector) where
  -- the sum of three numbers, each times a coefficient of an edge
  abbrev by_x : ℤ → ℤ → ℤ → ℤ
  by_x f g h = (edge_through b c).x *ℤ f +ℤ (edge_through c a).x *ℤ g +ℤ (edge_through a b).x *ℤ h

  abbrev by_y : ℤ → ℤ → ℤ → ℤ
  by_y f g h = (edge_through b c).y *ℤ f +ℤ (edge_through c a).y *ℤ g +ℤ (edge_through a b).y *ℤ h

  abbrev by_d : ℤ → ℤ → ℤ → ℤ
  by_d f g h = (edge_through b c).d *ℤ f +ℤ (edge_through c a).d *ℤ g +ℤ (edge_through a b).d *ℤ h

  upward_x : by_x a.y b.y c.y ≡ pos 0
  unfolding edge_through
  upward_x = omega (
    arith,
    ints,
    difference-product (b.y *ℤ c.d) (b.d *ℤ c.y) a.y,
    difference-product (c.y *ℤ a.d) (c.d *ℤ a.y) b.y,
    difference-product (a.y *ℤ b.d) (a.d *ℤ b.y) c.y,
    rotated_product b.y c.d a.y,
    rotated_product a.y b.d c.y,
    rotated_product c.y a.d b.y,
  )

  upward_y : by_y a.y b.y c.y ≡ value_at (edge_through b c) a
  unfolding edge_through value_at
  upward_y = omega (
    arith,
    ints,
    difference-product (c.d *ℤ a.x) (c.x *ℤ a.d) b.y,
    difference-product (a.d *ℤ b.x) (a.x *ℤ b.d) c.y,
    difference-product (b.y *ℤ c.d) (b.d *ℤ c.y) a.x,
    difference-product (b.x *ℤ c.y) (b.y *ℤ c.x) a.d,
    rotated_product b.y c.d a.x,
    rotated_product a.x b.d c.y,
    rotated_product a.d b.x c.y,
    rotated_product b.y c.x a.d,
  )

  upward_d : by_d a.y b.y c.y ≡ pos 0
  unfolding edge_through
  upward_d = omega (
    arith,
    ints,
    difference-product (b.x *ℤ c.y) (b.y *ℤ c.x) a.y,
    difference-product (c.x *ℤ a.y) (c.y *ℤ a.x) b.y,
    difference-product (a.x *ℤ b.y) (a.y *ℤ b.x) c.y,
    rotated_product a.y b.x c.y,
    rotated_product b.y c.x a.y,
    rotated_product c.y a.x b.y,
  )

  divisor_x : by_x a.d b.d c.d ≡ pos 0
  unfolding edge_through
  divisor_x = omega (
    arith,
    ints,
    difference-product (b.y *ℤ c.d) (b.d *ℤ c.y) a.d,
    difference-product (c.y *ℤ a.d) (c.d *ℤ a.y) b.d,
    difference-product (a.y *ℤ b.d) (a.d *ℤ b.y) c.d,
    rotated_product a.d b.y c.d,
    rotated_product b.d c.y a.d,
    rotated_product c.d a.y b.d,
  )

  divisor_y : by_y a.d b.d c.d ≡ pos 0
  unfolding edge_through
  divisor_y = omega (
    arith,
    ints,
    difference-product (b.d *ℤ c.x) (b.x *ℤ c.d) a.d,
    difference-product (c.d *ℤ a.x) (c.x *ℤ a.d) b.d,
    difference-product (a.d *ℤ b.x) (a.x *ℤ b.d) c.d,
    rotated_product b.d c.x a.d,
    rotated_product a.d b.x c.d,
    rotated_product c.d a.x b.d,
  )

  divisor_d : by_d a.d b.d c.d ≡ value_at (edge_through b c) a
  unfolding edge_through value_at
  divisor_d = omega (
    arith,
    ints,
    difference-product (c.x *ℤ a.y) (c.y *ℤ a.x) b.d,
    difference-product (a.x *ℤ b.y) (a.y *ℤ b.x) c.d,
    difference-product (b.y *ℤ c.d) (b.d *ℤ c.y) a.x,
    difference-product (b.d *ℤ c.x) (b.x *ℤ c.d) a.y,
    rotated_product a.x b.y c.d,
    rotated_product b.d c.y a.x,
    rotated_product b.d c.x a.y,
    rotated_product a.y b.x c.d,
  )

swap_last : (a b c : ℤ) → (a *ℤ b) *ℤ c ≡ (a *ℤ c) *ℤ b
swap_last a b c = rotated_product a b c ∙ ap (λ (z : ℤ). z *ℤ a) (product_swapped b c) ∙ sym (rotated_product a c b)

sum-product : (a b c : ℤ) → (a +ℤ b) *ℤ c ≡ a *ℤ c +ℤ b *ℤ c
sum-product a b c = product_swapped (a +ℤ b) c ∙ product-sum c a b ∙ omega (arith, ints)

-- three numbers, each times a sum of three products with the same three others
gathered : (x y d f g h : ℤ) (e1 e2 e3 : Vector)
    → (e1.x *ℤ x +ℤ e1.y *ℤ y +ℤ e1.d *ℤ d) *ℤ f +ℤ (e2.x *ℤ x +ℤ e2.y *ℤ y +ℤ e2.d *ℤ d) *ℤ g +ℤ (e3.x *ℤ x +ℤ e3.y *ℤ y +ℤ e3.d *ℤ d) *ℤ h
    ≡ (e1.x *ℤ f +ℤ e2.x *ℤ g +ℤ e3.x *ℤ h) *ℤ x +ℤ (e1.y *ℤ f +ℤ e2.y *ℤ g +ℤ e3.y *ℤ h) *ℤ y +ℤ (e1.d *ℤ f +ℤ e2.d *ℤ g +ℤ e3.d *ℤ h) *ℤ d
gathered x y d f g h e1 e2 e3 = omega (
  arith,
  ints,
  sum-product (e1.x *ℤ x +ℤ e1.y *ℤ y) (e1.d *ℤ d) f,
  sum-product (e1.x *ℤ x) (e1.y *ℤ y) f,
  sum-product (e2.x *ℤ x +ℤ e2.y *ℤ y) (e2.d *ℤ d) g,
  sum-product (e2.x *ℤ x) (e2.y *ℤ y) g,
  sum-product (e3.x *ℤ x +ℤ e3.y *ℤ y) (e3.d *ℤ d) h,
  sum-product (e3.x *ℤ x) (e3.y *ℤ y) h,
  sum-product (e1.x *ℤ f +ℤ e2.x *ℤ g) (e3.x *ℤ h) x,
  sum-product (e1.x *ℤ f) (e2.x *ℤ g) x,
  sum-product (e1.y *ℤ f +ℤ e2.y *ℤ g) (e3.y *ℤ h) y,
  sum-product (e1.y *ℤ f) (e2.y *ℤ g) y,
  sum-product (e1.d *ℤ f +ℤ e2.d *ℤ g) (e3.d *ℤ h) d,
  sum-product (e1.d *ℤ f) (e2.d *ℤ g) d,
  swap_last e1.x x f,
  swap_last e1.y y f,
  swap_last e1.d d f,
  swap_last e2.x x g,
  swap_last e2.y y g,
  swap_last e2.d d g,
  swap_last e3.x x h,
  swap_last e3.y y h,
  swap_last e3.d d h,
)

only_second : (m x y d : ℤ) → pos 0 *ℤ x +ℤ m *ℤ y +ℤ pos 0 *ℤ d ≡ m *ℤ y
only_second m x y d = omega (arith, ints)

only_third : (m x y d : ℤ) → pos 0 *ℤ x +ℤ pos 0 *ℤ y +ℤ m *ℤ d ≡ m *ℤ d
only_third m x y d = omega (arith, ints)

no_pixel : (flat covered : Bool) (found : Option Fragment) → covered ≡ false → (if flat then None else (if covered then found else None)) ≡ None
no_pixel true covered found out = refl
no_pixel false true found out = cc
no_pixel false false found out = refl

-- ---- the centre by the corners
module _ (a b c p : Vector) where
  upward : value_at (edge_through b c) p *ℤ a.y +ℤ value_at (edge_through c a) p *ℤ b.y +ℤ value_at (edge_through a b) p *ℤ c.y
      ≡ value_at (edge_through b c) a *ℤ p.y
  unfolding value_at
  upward =
      gathered p.x p.y p.d a.y b.y c.y (edge_through b c) (edge_through c a) (edge_through a b)
      ∙ ap (λ (z : ℤ). z *ℤ p.x +ℤ by_y a b c a.y b.y c.y *ℤ p.y +ℤ by_d a b c a.y b.y c.y *ℤ p.d) (upward_x a b c)
      ∙ ap (λ (z : ℤ). pos 0 *ℤ p.x +ℤ z *ℤ p.y +ℤ by_d a b c a.y b.y c.y *ℤ p.d) (upward_y a b c)
      ∙ ap (λ (z : ℤ). pos 0 *ℤ p.x +ℤ value_at (edge_through b c) a *ℤ p.y +ℤ z *ℤ p.d) (upward_d a b c)
      ∙ only_second (value_at (edge_through b c) a) p.x p.y p.d

  divisor : value_at (edge_through b c) p *ℤ a.d +ℤ value_at (edge_through c a) p *ℤ b.d +ℤ value_at (edge_through a b) p *ℤ c.d
      ≡ value_at (edge_through b c) a *ℤ p.d
  unfolding value_at
  divisor =
      gathered p.x p.y p.d a.d b.d c.d (edge_through b c) (edge_through c a) (edge_through a b)
      ∙ ap (λ (z : ℤ). z *ℤ p.x +ℤ by_y a b c a.d b.d c.d *ℤ p.y +ℤ by_d a b c a.d b.d c.d *ℤ p.d) (divisor_x a b c)
      ∙ ap (λ (z : ℤ). pos 0 *ℤ p.x +ℤ z *ℤ p.y +ℤ by_d a b c a.d b.d c.d *ℤ p.d) (divisor_y a b c)
      ∙ ap (λ (z : ℤ). pos 0 *ℤ p.x +ℤ pos 0 *ℤ p.y +ℤ z *ℤ p.d) (divisor_d a b c)
      ∙ only_third (value_at (edge_through b c) a) p.x p.y p.d

-- the sum of three weights, each times a number, where all weights are turned
turned_sum : (u v w f g h s : ℤ) → u *ℤ f +ℤ v *ℤ g +ℤ w *ℤ h ≡ s → neg_ℤ u *ℤ f +ℤ neg_ℤ v *ℤ g +ℤ neg_ℤ w *ℤ h ≡ neg_ℤ s
turned_sum u v w f g h s is = omega (arith, ints, negative-product u f, negative-product v g, negative-product w h)

-- the weights at a centre give it, times a number above zero
record GiveCentre (corners : List Vertex) (view : View) (x y : ℤ) : Type 0 where
  times : ℤ
  positive : pos 0 <ℤ times
  by_row : (weights_of corners view x y).one *ℤ (place corners view 0).y +ℤ (weights_of corners view x y).two *ℤ (place corners view 1).y +ℤ (weights_of corners view x y).three *ℤ (place corners view 2).y
      ≡ times *ℤ (pos 2 *ℤ y +ℤ pos 1)
  by_divisor : (weights_of corners view x y).one *ℤ (place corners view 0).d +ℤ (weights_of corners view x y).two *ℤ (place corners view 1).d +ℤ (weights_of corners view x y).three *ℤ (place corners view 2).d
      ≡ times *ℤ pos 2

module _ (corners : List Vertex) (view : View) (x y : ℤ) where
  abbrev sum_of : Weights → ℤ → ℤ → ℤ → ℤ
  sum_of w f g h = w.one *ℤ f +ℤ w.two *ℤ g +ℤ w.three *ℤ h

  abbrev one : Vector
  one = place corners view 0

  abbrev two : Vector
  two = place corners view 1

  abbrev three : Vector
  three = place corners view 2

  -- the weights as they are where the determinant isn't negative
  plain : pos 0 <ℤ delta_of corners view → (f g h : ℤ) → sum_of (weights_of corners view x y) f g h
      ≡ value_at (edge_through two three) (centre_of x y) *ℤ f +ℤ value_at (edge_through three one) (centre_of x y) *ℤ g +ℤ value_at (edge_through one two) (centre_of x y) *ℤ h
  unfolding weights_of edge_of
  plain more f g h =
      ap (λ (e : Vector). value_at e (centre_of x y) *ℤ f +ℤ value_at (inward (delta_of corners view) (edge_through three one)) (centre_of x y) *ℤ g +ℤ value_at (inward (delta_of corners view) (edge_through one two)) (centre_of x y) *ℤ h)
      (inward-other (delta_of corners view) (edge_through two three) (omega (arith, ints)))
      ∙ ap (λ (e : Vector). value_at (edge_through two three) (centre_of x y) *ℤ f +ℤ value_at e (centre_of x y) *ℤ g +ℤ value_at (inward (delta_of corners view) (edge_through one two)) (centre_of x y) *ℤ h)
      (inward-other (delta_of corners view) (edge_through three one) (omega (arith, ints)))
      ∙ ap (λ (e : Vector). value_at (edge_through two three) (centre_of x y) *ℤ f +ℤ value_at (edge_through three one) (centre_of x y) *ℤ g +ℤ value_at e (centre_of x y) *ℤ h)
      (inward-other (delta_of corners view) (edge_through one two) (omega (arith, ints)))

  -- and where it is
  inside_out : (e : Vector) → delta_of corners view <ℤ pos 0 → value_at (inward (delta_of corners view) e) (centre_of x y) ≡ neg_ℤ (value_at e (centre_of x y))
  inside_out e less = ap (λ (v : Vector). value_at v (centre_of x y)) (inward-negative (delta_of corners view) e less) ∙ value_at-turned e (centre_of x y)

  turned_round : delta_of corners view <ℤ pos 0 → (f g h : ℤ) → sum_of (weights_of corners view x y) f g h
      ≡ neg_ℤ (value_at (edge_through two three) (centre_of x y)) *ℤ f +ℤ neg_ℤ (value_at (edge_through three one) (centre_of x y)) *ℤ g +ℤ neg_ℤ (value_at (edge_through one two) (centre_of x y)) *ℤ h
  unfolding weights_of edge_of
  turned_round less f g h =
      ap (λ (z : ℤ). z *ℤ f +ℤ value_at (inward (delta_of corners view) (edge_through three one)) (centre_of x y) *ℤ g +ℤ value_at (inward (delta_of corners view) (edge_through one two)) (centre_of x y) *ℤ h) (inside_out (edge_through two three) less)
      ∙ ap (λ (z : ℤ). neg_ℤ (value_at (edge_through two three) (centre_of x y)) *ℤ f +ℤ z *ℤ g +ℤ value_at (inward (delta_of corners view) (edge_through one two)) (centre_of x y) *ℤ h) (inside_out (edge_through three one) less)
      ∙ ap (λ (z : ℤ). neg_ℤ (value_at (edge_through two three) (centre_of x y)) *ℤ f +ℤ neg_ℤ (value_at (edge_through three one) (centre_of x y)) *ℤ g +ℤ z *ℤ h) (inside_out (edge_through one two) less)

  give_centre : (delta_of corners view <ℤ pos 0) ⊎ (pos 0 <ℤ delta_of corners view) → GiveCentre corners view x y
  unfolding centre_of delta_of
  give_centre (inr more) = record {
    times = delta_of corners view;
    positive = more;
    by_row = plain more one.y two.y three.y ∙ upward one two three (centre_of x y);
    by_divisor = plain more one.d two.d three.d ∙ divisor one two three (centre_of x y);
  }
  give_centre (inl less) = record {
    times = neg_ℤ (delta_of corners view);
    positive = omega (arith, ints);
    by_row = turned_round less one.y two.y three.y ∙ turned_sum _ _ _ one.y two.y three.y _ (upward one two three (centre_of x y)) ∙ sym (negative-product (delta_of corners view) (pos 2 *ℤ y +ℤ pos 1));
    by_divisor = turned_round less one.d two.d three.d ∙ turned_sum _ _ _ one.d two.d three.d _ (divisor one two three (centre_of x y)) ∙ sym (negative-product (delta_of corners view) (pos 2));
  }

-- ---- a centre between the corners
times_moved : (w n d : ℤ) → w *ℤ (n *ℤ d) ≡ n *ℤ (w *ℤ d)
times_moved w n d = sym (product-product w n d) ∙ ap (λ (z : ℤ). z *ℤ d) (product_swapped w n) ∙ product-product n w d

module _ (u v w f g h a b c m z n : ℤ) (from_u : pos 0 ≤ℤ u) (from_v : pos 0 ≤ℤ v) (from_w : pos 0 ≤ℤ w) (some : pos 0 <ℤ m)
    (row : u *ℤ f +ℤ v *ℤ g +ℤ w *ℤ h ≡ m *ℤ z) (whole : u *ℤ a +ℤ v *ℤ b +ℤ w *ℤ c ≡ m *ℤ pos 2) where
  all_times : u *ℤ (n *ℤ a) +ℤ v *ℤ (n *ℤ b) +ℤ w *ℤ (n *ℤ c) ≡ m *ℤ (n *ℤ pos 2)
  all_times = omega (
    arith,
    ints,
    times_moved u n a,
    times_moved v n b,
    times_moved w n c,
    product-sum n (u *ℤ a +ℤ v *ℤ b) (w *ℤ c),
    product-sum n (u *ℤ a) (v *ℤ b),
    ap (λ (k : ℤ). n *ℤ k) whole,
    times_moved m n (pos 2),
  )

  no_higher : f ≤ℤ (n *ℤ a) → g ≤ℤ (n *ℤ b) → h ≤ℤ (n *ℤ c) → z ≤ℤ (n *ℤ pos 2)
  no_higher one two three =
      let first = product_rises u f (n *ℤ a) from_u one in
      let second = product_rises v g (n *ℤ b) from_v two in
      let third = product_rises w h (n *ℤ c) from_w three in
      let all = all_times in
      lesser_factor m z (n *ℤ pos 2) some (omega (arith, ints))

  no_lower : (n *ℤ a) ≤ℤ f → (n *ℤ b) ≤ℤ g → (n *ℤ c) ≤ℤ h → (n *ℤ pos 2) ≤ℤ z
  no_lower one two three =
      let first = product_rises u (n *ℤ a) f from_u one in
      let second = product_rises v (n *ℤ b) g from_v two in
      let third = product_rises w (n *ℤ c) h from_w three in
      let all = all_times in
      lesser_factor m (n *ℤ pos 2) z some (omega (arith, ints))

no_times : (u a : ℤ) → u ≡ pos 0 → u *ℤ a ≡ pos 0
no_times u a e = ap (λ (z : ℤ). z *ℤ a) e ∙ omega (arith, ints)

some_of_three : (u v w a b c m : ℤ) → pos 0 ≤ℤ u → pos 0 ≤ℤ v → pos 0 ≤ℤ w → pos 0 <ℤ m → u *ℤ a +ℤ v *ℤ b +ℤ w *ℤ c ≡ m *ℤ pos 2 → pos 0 <ℤ (u +ℤ v +ℤ w)
some_of_three u v w a b c m h k l some e =
    by_lt_z (pos 0) (u +ℤ v +ℤ w) (λ more. more) (λ none.
    let first = no_times u a (omega (arith, ints)) in
    let second = no_times v b (omega (arith, ints)) in
    let third = no_times w c (omega (arith, ints)) in
    absurd (omega (arith, ints)))

sign_of : (z : ℤ) → (z ≡ pos 0 → ⊥) → (z <ℤ pos 0) ⊎ (pos 0 <ℤ z)
sign_of (pos zero) some = absurd (some refl)
sign_of (pos (suc n)) some = inr (omega (arith, ints))
sign_of (negsuc n) some = inl (omega (arith, ints))

module _ (corners : List Vertex) (view : View) (not_flat : delta_of corners view ≡ pos 0 → ⊥) where
  not_covered_none : (x y : ℤ) → is_covered corners view x y ≡ false → pixel_of corners view x y ≡ None
  unfolding pixel_of
  not_covered_none x y out = no_pixel (is_zero (delta_of corners view)) (is_covered corners view x y) (kept_fragment corners (weights_of corners view x y) x y) out

  -- above the highest corner there is no pixel
  pub none_over : (n x y : ℤ) → (place corners view 0).y ≤ℤ (n *ℤ (place corners view 0).d) → (place corners view 1).y ≤ℤ (n *ℤ (place corners view 1).d)
      → (place corners view 2).y ≤ℤ (n *ℤ (place corners view 2).d) → n ≤ℤ y → pixel_of corners view x y ≡ None
  none_over n x y one two three past =
      elim (cases_Bool (is_covered corners view x y)) [
        | inl covered ↦
            let none = covered_not_negative corners view x y covered in
            let centre = give_centre corners view x y (sign_of (delta_of corners view) not_flat) in
            let low = no_higher _ _ _ _ _ _ _ _ _ centre.times (pos 2 *ℤ y +ℤ pos 1) n none.from_one none.from_two none.from_three centre.positive centre.by_row centre.by_divisor one two three in
            absurd (omega (arith, ints))
        | inr out ↦ not_covered_none x y out
      ]

  -- and none under the lowest
  pub none_under : (n x y : ℤ) → (n *ℤ (place corners view 0).d) ≤ℤ (place corners view 0).y → (n *ℤ (place corners view 1).d) ≤ℤ (place corners view 1).y
      → (n *ℤ (place corners view 2).d) ≤ℤ (place corners view 2).y → y <ℤ n → pixel_of corners view x y ≡ None
  none_under n x y one two three before =
      elim (cases_Bool (is_covered corners view x y)) [
        | inl covered ↦
            let none = covered_not_negative corners view x y covered in
            let centre = give_centre corners view x y (sign_of (delta_of corners view) not_flat) in
            let high = no_lower _ _ _ _ _ _ _ _ _ centre.times (pos 2 *ℤ y +ℤ pos 1) n none.from_one none.from_two none.from_three centre.positive centre.by_row centre.by_divisor one two three in
            absurd (omega (arith, ints))
        | inr out ↦ not_covered_none x y out
      ]

  -- at a covered centre some corner weighs something
  pub some_weights_covered : (x y : ℤ) → is_covered corners view x y ≡ true → pos 0 <ℤ ((weights_of corners view x y).one +ℤ (weights_of corners view x y).two +ℤ (weights_of corners view x y).three)
  some_weights_covered x y covered =
      let none = covered_not_negative corners view x y covered in
      let centre = give_centre corners view x y (sign_of (delta_of corners view) not_flat) in
      some_of_three _ _ _ _ _ _ centre.times none.from_one none.from_two none.from_three centre.positive centre.by_divisor
