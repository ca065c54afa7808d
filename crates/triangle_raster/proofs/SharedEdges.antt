-- An edge between two triangles that stand on opposite sides of it: the one triangle's edge is the other's, turned.
use Rattle.std.proofs.Common.{◌≡◌, ℕ, zero, suc, ◌<◌, Bool, true, false, ◌&&◌, ◌⊎◌, inl, inr, ℤ, pos, negsuc, neg_ℤ, ◌+ℤ◌, ◌*ℤ◌, ◌<ℤ◌, ◌≤ℤ◌, List, refl, sym, ap, ◌∙◌, arith}
use Rattle.std.proofs.lemmas.Int.{ints}
use Rattle.triangle_raster.specs.declared.vertex.Vertex.{Vertex}
use Rattle.triangle_raster.specs.declared.vertex.View.{View}
use Rattle.triangle_raster.specs.Vertex.{Vector, centre_of, determinant, edge_through, turned, value_at}
use Rattle.triangle_raster.specs.Pixel.{above_or, delta_of, edge_of, inward, is_covered, passes, place}
use Rattle.triangle_raster.specs.SharedEdge.{CoverOnce, PassesOthers, SharedEdge, first_end, second_end}
use Rattle.triangle_raster.proofs.WholeNumbers.{difference-product, negative-product, rotated_product}
use Rattle.triangle_raster.proofs.Vectors.{same_vector}
use Rattle.triangle_raster.proofs.Edges.{inward-negative, inward-other}
use Rattle.triangle_raster.proofs.Fragments.{all_true}

-- ---- determinants
pub edge_through-swapped : (a b : Vector) → edge_through b a ≡ turned (edge_through a b)
unfolding edge_through turned
edge_through-swapped a b = same_vector (omega (arith, ints)) (omega (arith, ints)) (omega (arith, ints))

pub value_at-turned : (edge p : Vector) → value_at (turned edge) p ≡ neg_ℤ (value_at edge p)
unfolding value_at turned
value_at-turned edge p =
    omega (arith, ints, negative-product edge.x p.x, negative-product edge.y p.y, negative-product edge.d p.d)

pub determinant-rotated : (a b c : Vector) → determinant a b c ≡ determinant b c a
unfolding value_at edge_through
determinant-rotated a b c =
    omega (
      arith,
      ints,
      difference-product (b.y *ℤ c.d) (b.d *ℤ c.y) a.x,
      difference-product (b.d *ℤ c.x) (b.x *ℤ c.d) a.y,
      difference-product (b.x *ℤ c.y) (b.y *ℤ c.x) a.d,
      difference-product (c.y *ℤ a.d) (c.d *ℤ a.y) b.x,
      difference-product (c.d *ℤ a.x) (c.x *ℤ a.d) b.y,
      difference-product (c.x *ℤ a.y) (c.y *ℤ a.x) b.d,
      rotated_product b.y c.d a.x,
      rotated_product b.d c.y a.x,
      rotated_product b.d c.x a.y,
      rotated_product b.x c.d a.y,
      rotated_product b.x c.y a.d,
      rotated_product b.y c.x a.d,
    )

pub determinant-swapped : (a b c : Vector) → determinant b a c ≡ neg_ℤ (determinant a b c)
determinant-swapped a b c =
    determinant-rotated b a c ∙ determinant-rotated a c b
    ∙ ap (λ (edge : Vector). value_at edge c) (edge_through-swapped a b)
    ∙ value_at-turned (edge_through a b) c
    ∙ ap neg_ℤ (sym (determinant-rotated a b c ∙ determinant-rotated b c a))

turned-turned : (edge : Vector) → turned (turned edge) ≡ edge
unfolding turned
turned-turned edge = same_vector (omega (arith, ints)) (omega (arith, ints)) (omega (arith, ints))

-- ---- the edge across from a corner, by its ends
pub edge_of-by_ends : (corners : List Vertex) (view : View) (k : ℕ) → k < 3 →
    edge_of corners view k ≡ inward (determinant (first_end corners view k) (second_end corners view k) (place corners view k)) (edge_through (first_end corners view k) (second_end corners view k))
unfolding edge_of delta_of
edge_of-by_ends corners view zero h =
    ap (λ (d : ℤ). inward d (edge_through (place corners view 1) (place corners view 2))) (determinant-rotated (place corners view 0) (place corners view 1) (place corners view 2))
edge_of-by_ends corners view (suc zero) h =
    ap (λ (d : ℤ). inward d (edge_through (place corners view 2) (place corners view 0)))
    (determinant-rotated (place corners view 0) (place corners view 1) (place corners view 2) ∙ determinant-rotated (place corners view 1) (place corners view 2) (place corners view 0))
edge_of-by_ends corners view (suc (suc zero)) h = refl
edge_of-by_ends corners view (suc (suc (suc k))) h = absurd (omega arith)

-- an edge and the same run the other way, with the sign of the determinant
inward-swapped : (s : ℤ) (edge : Vector) → (s <ℤ pos 0) ⊎ (pos 0 <ℤ s) → inward (neg_ℤ s) (turned edge) ≡ inward s edge
inward-swapped s edge (inl h) =
    inward-other (neg_ℤ s) (turned edge) (omega (arith, ints)) ∙ sym (inward-negative s edge h)
inward-swapped s edge (inr h) =
    inward-negative (neg_ℤ s) (turned edge) (omega (arith, ints)) ∙ turned-turned edge ∙ sym (inward-other s edge (omega (arith, ints)))

edge_of-other : (other : List Vertex) (view : View) (m : ℕ) → m < 3 → (a b : Vector) →
    ((a ≡ first_end other view m) × (b ≡ second_end other view m)) ⊎ ((a ≡ second_end other view m) × (b ≡ first_end other view m)) →
    (determinant a b (place other view m) <ℤ pos 0) ⊎ (pos 0 <ℤ determinant a b (place other view m)) →
    edge_of other view m ≡ inward (determinant a b (place other view m)) (edge_through a b)
edge_of-other other view m h a b (inl same) sign =
    edge_of-by_ends other view m h
    ∙ ap (λ (v : Vector). inward (determinant v (second_end other view m) (place other view m)) (edge_through v (second_end other view m))) (sym same.0)
    ∙ ap (λ (v : Vector). inward (determinant a v (place other view m)) (edge_through a v)) (sym same.1)
edge_of-other other view m h a b (inr same) sign =
    edge_of-by_ends other view m h
    ∙ ap (λ (v : Vector). inward (determinant v (second_end other view m) (place other view m)) (edge_through v (second_end other view m))) (sym same.1)
    ∙ ap (λ (v : Vector). inward (determinant b v (place other view m)) (edge_through b v)) (sym same.0)
    ∙ ap (λ (d : ℤ). inward d (edge_through b a)) (determinant-swapped a b (place other view m))
    ∙ ap (λ (v : Vector). inward (neg_ℤ (determinant a b (place other view m))) v) (edge_through-swapped a b)
    ∙ inward-swapped (determinant a b (place other view m)) (edge_through a b) sign

-- ---- the tests of an edge and of the same turned
test : ℤ → ℤ → ℤ → Bool
test a b c = above_or a (above_or b (above_or c false))

test-not_both : (a b c : ℤ) → test a b c ≡ true → test (neg_ℤ a) (neg_ℤ b) (neg_ℤ c) ≡ true → ⊥
unfolding test
test-not_both (pos (suc n)) b c h k = cc
test-not_both (negsuc n) b c h k = cc
test-not_both (pos zero) (pos (suc n)) c h k = cc
test-not_both (pos zero) (negsuc n) c h k = cc
test-not_both (pos zero) (pos zero) (pos (suc n)) h k = cc
test-not_both (pos zero) (pos zero) (negsuc n) h k = cc
test-not_both (pos zero) (pos zero) (pos zero) h k = cc

test-one_of : (a b c : ℤ) → ((a ≡ pos 0) × (b ≡ pos 0) × (c ≡ pos 0) → ⊥) → (test a b c ≡ true) ⊎ (test (neg_ℤ a) (neg_ℤ b) (neg_ℤ c) ≡ true)
unfolding test
test-one_of (pos (suc n)) b c h = inl refl
test-one_of (negsuc n) b c h = inr refl
test-one_of (pos zero) (pos (suc n)) c h = inl refl
test-one_of (pos zero) (negsuc n) c h = inr refl
test-one_of (pos zero) (pos zero) (pos (suc n)) h = inl refl
test-one_of (pos zero) (pos zero) (negsuc n) h = inr refl
test-one_of (pos zero) (pos zero) (pos zero) h = absurd (h (refl, refl, refl))

passes-turned : (edge p : Vector) → passes (turned edge) p ≡ test (neg_ℤ (value_at edge p)) (neg_ℤ edge.x) (neg_ℤ edge.y)
unfolding passes turned test
passes-turned edge p = ap (λ (z : ℤ). above_or z (above_or (neg_ℤ edge.x) (above_or (neg_ℤ edge.y) false))) (value_at-turned edge p)

passes-test : (edge p : Vector) → passes edge p ≡ test (value_at edge p) edge.x edge.y
unfolding passes test
passes-test edge p = refl

-- an edge without coefficients has the value zero everywhere
no_edge : (edge p : Vector) (x y : ℤ) → edge.x ≡ pos 0 → edge.y ≡ pos 0 → value_at edge (centre_of x y) ≡ pos 0 → value_at edge p ≡ pos 0
unfolding value_at centre_of
no_edge edge p x y h k e =
    let ax : edge.x *ℤ p.x ≡ pos 0 *ℤ p.x = ap (λ (z : ℤ). z *ℤ p.x) h in
    let ay : edge.y *ℤ p.y ≡ pos 0 *ℤ p.y = ap (λ (z : ℤ). z *ℤ p.y) k in
    let cx : edge.x *ℤ (pos 2 *ℤ x +ℤ pos 1) ≡ pos 0 *ℤ (pos 2 *ℤ x +ℤ pos 1) = ap (λ (z : ℤ). z *ℤ (pos 2 *ℤ x +ℤ pos 1)) h in
    let cy : edge.y *ℤ (pos 2 *ℤ y +ℤ pos 1) ≡ pos 0 *ℤ (pos 2 *ℤ y +ℤ pos 1) = ap (λ (z : ℤ). z *ℤ (pos 2 *ℤ y +ℤ pos 1)) k in
    let none : edge.d ≡ pos 0 = omega (arith, ints) in
    let ad : edge.d *ℤ p.d ≡ pos 0 *ℤ p.d = ap (λ (z : ℤ). z *ℤ p.d) none in
    omega (arith, ints)

module _ (edge p : Vector) (x y : ℤ) where
  pub not_both : passes edge (centre_of x y) ≡ true → passes (turned edge) (centre_of x y) ≡ true → ⊥
  not_both h k =
      test-not_both (value_at edge (centre_of x y)) edge.x edge.y (sym (passes-test edge (centre_of x y)) ∙ h) (sym (passes-turned edge (centre_of x y)) ∙ k)

  pub one_of : (value_at edge p ≡ pos 0 → ⊥) → (passes edge (centre_of x y) ≡ true) ⊎ (passes (turned edge) (centre_of x y) ≡ true)
  one_of some =
      elim (test-one_of (value_at edge (centre_of x y)) edge.x edge.y (λ (zeros : (value_at edge (centre_of x y) ≡ pos 0) × (edge.x ≡ pos 0) × (edge.y ≡ pos 0)). some (no_edge edge p x y zeros.1 zeros.2 zeros.0)))
      [ inl h ↦ inl (passes-test edge (centre_of x y) ∙ h) | inr h ↦ inr (passes-turned edge (centre_of x y) ∙ h) ]

-- ---- what is covered passes each edge's test, and the other way round
module _ (corners : List Vertex) (view : View) (x y : ℤ) where
  pub covered_passes : is_covered corners view x y ≡ true → (k : ℕ) → k < 3 → passes (edge_of corners view k) (centre_of x y) ≡ true
  unfolding is_covered
  covered_passes e zero h = (all_true (passes (edge_of corners view 0) (centre_of x y)) (passes (edge_of corners view 1) (centre_of x y)) (passes (edge_of corners view 2) (centre_of x y)) e).0
  covered_passes e (suc zero) h = (all_true (passes (edge_of corners view 0) (centre_of x y)) (passes (edge_of corners view 1) (centre_of x y)) (passes (edge_of corners view 2) (centre_of x y)) e).1
  covered_passes e (suc (suc zero)) h = (all_true (passes (edge_of corners view 0) (centre_of x y)) (passes (edge_of corners view 1) (centre_of x y)) (passes (edge_of corners view 2) (centre_of x y)) e).2
  covered_passes e (suc (suc (suc k))) h = absurd (omega arith)

  all_pass : (a b c : Bool) → a ≡ true → b ≡ true → c ≡ true → (a && (b && c)) ≡ true
  all_pass a b c p q r = ap (λ (z : Bool). z && (b && c)) p ∙ ap (λ (z : Bool). z && c) q ∙ r

  pub covered_from : (k : ℕ) → k < 3 → passes (edge_of corners view k) (centre_of x y) ≡ true → PassesOthers corners view k x y → is_covered corners view x y ≡ true
  unfolding is_covered
  covered_from zero h own others = all_pass _ _ _ own others.after others.before
  covered_from (suc zero) h own others = all_pass _ _ _ others.before own others.after
  covered_from (suc (suc zero)) h own others = all_pass _ _ _ others.after others.before own
  covered_from (suc (suc (suc k))) h own others = absurd (omega arith)

-- ---- the law
module _ (one other : List Vertex) (view : View) (k m : ℕ) (h : k < 3) (g : m < 3) (x y : ℤ) where
  -- where the one triangle's edge is n and the other's is n turned
  opposite : (n p : Vector) → (value_at n p ≡ pos 0 → ⊥) → edge_of one view k ≡ n → edge_of other view m ≡ turned n → CoverOnce one other view k m x y
  opposite n p some e f = record {
    not_twice = λ c d.
        not_both n p x y (sym (ap (λ (v : Vector). passes v (centre_of x y)) e) ∙ covered_passes one view x y c k h)
        (sym (ap (λ (v : Vector). passes v (centre_of x y)) f) ∙ covered_passes other view x y d m g);
    not_lost = λ _ a b.
        elim (one_of n p x y some) [
          | inl t ↦ inl (covered_from one view x y k h (ap (λ (v : Vector). passes v (centre_of x y)) e ∙ t) a)
          | inr t ↦ inr (covered_from other view x y m g (ap (λ (v : Vector). passes v (centre_of x y)) f ∙ t) b)
        ];
  }

  -- and the other way round
  turned_opposite : (n p : Vector) → (value_at n p ≡ pos 0 → ⊥) → edge_of one view k ≡ turned n → edge_of other view m ≡ n → CoverOnce one other view k m x y
  turned_opposite n p some e f = record {
    not_twice = λ c d.
        not_both n p x y (sym (ap (λ (v : Vector). passes v (centre_of x y)) f) ∙ covered_passes other view x y d m g)
        (sym (ap (λ (v : Vector). passes v (centre_of x y)) e) ∙ covered_passes one view x y c k h);
    not_lost = λ _ a b.
        elim (one_of n p x y some) [
          | inl t ↦ inr (covered_from other view x y m g (ap (λ (v : Vector). passes v (centre_of x y)) f ∙ t) b)
          | inr t ↦ inl (covered_from one view x y k h (ap (λ (v : Vector). passes v (centre_of x y)) e ∙ t) a)
        ];
  }

below_is_at_most : (z : ℤ) → pos 0 <ℤ z → pos 0 ≤ℤ z
below_is_at_most z h = omega (arith, ints)

not_zero_below : (z : ℤ) → z <ℤ pos 0 → z ≡ pos 0 → ⊥
not_zero_below z h e = omega (arith, ints)

not_zero_above : (z : ℤ) → pos 0 <ℤ z → z ≡ pos 0 → ⊥
not_zero_above z h e = omega (arith, ints)

covers_once : (one other : List Vertex) (view : View) (k m : ℕ) (h : k < 3) (g : m < 3) (x y : ℤ) (a b : Vector) →
    a ≡ first_end one view k → b ≡ second_end one view k →
    ((a ≡ first_end other view m) × (b ≡ second_end other view m)) ⊎ ((a ≡ second_end other view m) × (b ≡ first_end other view m)) →
    ((determinant a b (place one view k) <ℤ pos 0) × (pos 0 <ℤ determinant a b (place other view m)))
    ⊎ ((pos 0 <ℤ determinant a b (place one view k)) × (determinant a b (place other view m) <ℤ pos 0)) →
    CoverOnce one other view k m x y
covers_once one other view k m h g x y a b e f shared (inl signs) =
    turned_opposite one other view k m h g x y (edge_through a b) (place one view k)
    (λ z. not_zero_below _ signs.0 (determinant-rotated a b (place one view k) ∙ determinant-rotated b (place one view k) a ∙ z))
    (edge_of-other one view k h a b (inl (e, f)) (inl signs.0) ∙ inward-negative _ _ signs.0)
    (edge_of-other other view m g a b shared (inr signs.1) ∙ inward-other _ _ (below_is_at_most _ signs.1))
covers_once one other view k m h g x y a b e f shared (inr signs) =
    opposite one other view k m h g x y (edge_through a b) (place one view k)
    (λ z. not_zero_above _ signs.0 (determinant-rotated a b (place one view k) ∙ determinant-rotated b (place one view k) a ∙ z))
    (edge_of-other one view k h a b (inl (e, f)) (inr signs.0) ∙ inward-other _ _ (below_is_at_most _ signs.0))
    (edge_of-other other view m g a b shared (inl signs.1) ∙ inward-negative _ _ signs.1)

pub opposite_corners_cover_once : (one other : List Vertex) (view : View) (x y : ℤ) → SharedEdge one other view x y
opposite_corners_cover_once one other view x y k m h g stand =
    covers_once one other view k m h g x y (first_end one view k) (second_end one view k) refl refl stand.shared stand.apart
