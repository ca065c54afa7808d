-- The columns that the three edges let through are those that the triangle covers.
use Rattle.std.proofs.Common.{◌≡◌, ℕ, ◌*◌, ◌^◌, ◌≤◌, Bool, true, false, ◌&&◌, ℤ, pos, negsuc, zero, suc, neg_ℤ, ◌+ℤ◌, ◌*ℤ◌, ◌<ℤ◌, ◌≤ℤ◌, ◌↔◌, refl, sym, subst, ap, ◌∙◌, arith}
use Rattle.std.specs.Prelude.{IsTrue, unsigned_abs}
use Rattle.std.specs.Int.{int_div_euclid, int_max, int_min}
use Rattle.std.proofs.lemmas.Int.{ints, clamps, by_lt_z}
use Rattle.triangle_raster.specs.declared.edge.Edge.{Edge}
use Rattle.triangle_raster.specs.declared.shape.Shape.{Shape}
use Rattle.triangle_raster.specs.declared.sums.Sums.{Sums}
use Rattle.triangle_raster.specs.Vertex.{Vector, IsWithin, centre_of, value_at}
use Rattle.triangle_raster.specs.Pixel.{above_or, is_covered, passes}
use Rattle.triangle_raster.specs.Held.{edge_seen, passes_in, AreSumsAt, IsCoveredAmong, IsShape}
use Rattle.triangle_raster.proofs.WholeNumbers.{product-negative, product-product}
use Rattle.triangle_raster.proofs.Quotients.{lesser_factor, product_rises, quotient_high, quotient_low}
use Rattle.triangle_raster.proofs.Edges.{passes_as_seen, value_at-columns_further}
use Rattle.triangle_raster.proofs.Means.{quotient_within}
use Rattle.triangle_raster.proofs.Bounds.{within_more}
use Rattle.triangle_raster.proofs.Shapes.{first_weight, second_weight, third_weight}
use Rattle.triangle_raster.proofs.Fragments.{all_true}

-- ---- where a rising sum passes zero
module _ (sum step : ℤ) (some : pos 0 <ℤ step) where
  pub first_is : (r q : ℤ) → r ≡ neg_ℤ q → q ≡ int_div_euclid sum step → (k : ℤ) → (pos 0 ≤ℤ (sum +ℤ step *ℤ k)) ↔ (r ≤ℤ k)
  first_is r q e same = λ k.
      let low : (step *ℤ q) ≤ℤ sum = subst (λ (z : ℤ). (step *ℤ z) ≤ℤ sum) (sym same) (quotient_low sum step some) in
      let high : sum <ℤ (step *ℤ q +ℤ step) = subst (λ (z : ℤ). sum <ℤ (step *ℤ z +ℤ step)) (sym same) (quotient_high sum step some) in
      let turned : step *ℤ neg_ℤ k ≡ neg_ℤ (step *ℤ k) = product-negative step k in (
        λ h. let least : neg_ℤ k ≤ℤ q = lesser_factor step (neg_ℤ k) q some (omega (arith, ints)) in omega (arith, ints),
        λ h. let most : (step *ℤ neg_ℤ k) ≤ℤ (step *ℤ q) = product_rises step (neg_ℤ k) q (omega (arith, ints)) (omega (arith, ints)) in omega (arith, ints),
      )

  pub quotient_near : IsWithin (2 ^ 81) sum → IsWithin (2 ^ 81) (int_div_euclid sum step)
  quotient_near near =
      let least : 1 ≤ unsigned_abs step = omega (arith, ints) in
      quotient_within (2 ^ 81) sum step some (within_more (2 ^ 81 * unsigned_abs step) near (omega (arith)))

-- ---- columns from and before another
module _ (from to column r : ℤ) (order : from ≤ℤ to) (e : r ≡ int_min (int_max column from) to) where
  pub nearest_in : (from ≤ℤ r) × (r ≤ℤ to)
  nearest_in = (omega (arith, ints, clamps), omega (arith, ints, clamps))

  pub starting_exact : (k : ℤ) → ((r ≤ℤ k) × (k <ℤ to)) ↔ (((from ≤ℤ k) × (k <ℤ to)) × (column ≤ℤ k))
  starting_exact k = (
    λ h. let low = h.0 in let high = h.1 in ((omega (arith, ints, clamps), high), omega (arith, ints, clamps)),
    λ h. let low = h.0.0 in let high = h.0.1 in let after = h.1 in (omega (arith, ints, clamps), high),
  )

  pub ending_exact : (k : ℤ) → ((from ≤ℤ k) × (k <ℤ r)) ↔ (((from ≤ℤ k) × (k <ℤ to)) × (k <ℤ column))
  ending_exact k = (
    λ h. let low = h.0 in let high = h.1 in ((low, omega (arith, ints, clamps)), omega (arith, ints, clamps)),
    λ h. let low = h.0.0 in let high = h.0.1 in let before = h.1 in (low, omega (arith, ints, clamps)),
  )

-- ---- the test of an edge from column to column
test_rising : (z x : ℤ) (next : Bool) → pos 0 <ℤ x → IsTrue (above_or z (above_or x next)) ↔ (pos 0 ≤ℤ z)
test_rising (pos zero) (pos zero) next h = absurd (omega (arith, ints))
test_rising (pos zero) (pos (suc n)) next h = (λ t. omega (arith, ints), λ l. refl)
test_rising (pos zero) (negsuc n) next h = absurd (omega (arith, ints))
test_rising (pos (suc m)) x next h = (λ t. omega (arith, ints), λ l. refl)
test_rising (negsuc m) x next h = (λ t. cc, λ l. absurd (omega (arith, ints)))

test_falling : (z x : ℤ) (next : Bool) → x <ℤ pos 0 → IsTrue (above_or z (above_or x next)) ↔ (pos 0 <ℤ z)
test_falling (pos zero) (pos n) next h = absurd (omega (arith, ints))
test_falling (pos zero) (negsuc n) next h = (λ t. cc, λ l. absurd (omega (arith, ints)))
test_falling (pos (suc m)) x next h = (λ t. omega (arith, ints), λ l. refl)
test_falling (negsuc m) x next h = (λ t. cc, λ l. absurd (omega (arith, ints)))

both_with : {A B C D : Type 0} → A ↔ (B × C) → C ↔ D → A ↔ (B × D)
both_with f g = (λ a. let bc = f.0 a in (bc.0, g.0 bc.1), λ bd. f.1 (bd.0, g.1 bd.1))

twice_product : (x k : ℤ) → (pos 2 *ℤ x) *ℤ k ≡ pos 2 *ℤ (x *ℤ k)
twice_product x k = product-product (pos 2) x k

turned_twice_product : (x k : ℤ) → (negsuc 1 *ℤ x) *ℤ k ≡ neg_ℤ (pos 2 *ℤ (x *ℤ k))
turned_twice_product x k = product-product (negsuc 1) x k ∙ omega (arith, ints)

module _ (edge : Edge) (sum k : ℤ) where
  pub passes_in-rising : {A B : Type 0} {column given step given_sum : ℤ} → A ↔ (B × (given ≤ℤ k)) → (pos 0 ≤ℤ (given_sum +ℤ step *ℤ k)) ↔ (column ≤ℤ k) →
      given ≡ column → step ≡ pos 2 *ℤ edge.x → given_sum ≡ sum → pos 0 <ℤ edge.x → A ↔ (B × IsTrue (passes_in edge sum k))
  passes_in-rising {A} {B} {column} {given} {step} {given_sum} f g same_column same_step same_sum h =
      let same : step *ℤ k ≡ pos 2 *ℤ (edge.x *ℤ k) = ap (λ (z : ℤ). z *ℤ k) same_step ∙ twice_product edge.x k in
      let test = test_rising (sum +ℤ pos 2 *ℤ (edge.x *ℤ k)) edge.x (above_or edge.y false) h in
      both_with f (
        λ after. let from = g.1 (let after' : given ≤ℤ k = after in omega (arith, ints)) in test.1 (omega (arith, ints)),
        λ t. let from = test.0 t in let after : column ≤ℤ k = g.0 (omega (arith, ints)) in omega (arith, ints),
      )

  pub passes_in-falling : {A B : Type 0} {column given step given_sum : ℤ} → A ↔ (B × (k <ℤ given)) → (pos 0 ≤ℤ (given_sum +ℤ step *ℤ k)) ↔ (column ≤ℤ k) →
      given ≡ column → step ≡ negsuc 1 *ℤ edge.x → given_sum ≡ neg_ℤ sum → edge.x <ℤ pos 0 → A ↔ (B × IsTrue (passes_in edge sum k))
  passes_in-falling {A} {B} {column} {given} {step} {given_sum} f g same_column same_step same_sum h =
      let same : step *ℤ k ≡ neg_ℤ (pos 2 *ℤ (edge.x *ℤ k)) = ap (λ (z : ℤ). z *ℤ k) same_step ∙ turned_twice_product edge.x k in
      let test = test_falling (sum +ℤ pos 2 *ℤ (edge.x *ℤ k)) edge.x (above_or edge.y false) h in
      both_with f (
        λ before.
            by_lt_z (pos 0) (sum +ℤ pos 2 *ℤ (edge.x *ℤ k)) (λ above. test.1 above)
            (λ below. let before' : k <ℤ given = before in let after : column ≤ℤ k = g.0 (omega (arith, ints)) in absurd (omega (arith, ints))),
        λ t.
            let above = test.0 t in
            by_lt_z k given (λ before. before) (λ after. let not_above = g.1 (omega (arith, ints)) in absurd (omega (arith, ints))),
      )

  -- the sum does not change
  pub passes_in-level : edge.x ≡ pos 0 → passes_in edge sum k ≡ above_or sum (above_or edge.x (above_or edge.y false))
  passes_in-level e =
      let none : edge.x *ℤ k ≡ pos 0 = ap (λ (z : ℤ). z *ℤ k) e ∙ omega (arith, ints) in
      let same : sum +ℤ pos 2 *ℤ (edge.x *ℤ k) ≡ sum = omega (arith, ints) in
      ap (λ (z : ℤ). above_or z (above_or edge.x (above_or edge.y false))) same

  -- so that either all columns pass, or none
  module _ (e : edge.x ≡ pos 0) where
    pub all_pass : {A : Type 0} → above_or sum (above_or edge.x (above_or edge.y false)) ≡ true → A ↔ (A × IsTrue (passes_in edge sum k))
    all_pass t = (λ a. (a, passes_in-level e ∙ t), λ both. both.0)

    pub none_passes : {A : Type 0} (to : ℤ) → above_or sum (above_or edge.x (above_or edge.y false)) ≡ false → ((to ≤ℤ k) × (k <ℤ to)) ↔ (A × IsTrue (passes_in edge sum k))
    none_passes to t = (
      λ h. let low : to ≤ℤ k = h.0 in let high : k <ℤ to = h.1 in absurd (omega (arith, ints)),
      λ both. let wrong : false ≡ true = sym (passes_in-level e ∙ t) ∙ both.1 in cc,
    )

-- ---- the three edges together
passes_further : (edge : Edge) (v : Vector) (sum x y k : ℤ) → edge_seen edge ≡ v → sum ≡ value_at v (centre_of x y) → passes_in edge sum k ≡ passes v (centre_of (x +ℤ k) y)
passes_further edge v sum x y k e h =
    passes_as_seen edge v (centre_of (x +ℤ k) y) (sum +ℤ pos 2 *ℤ (edge.x *ℤ k)) e
    (ap (λ (z : ℤ). z +ℤ pos 2 *ℤ (edge.x *ℤ k)) h
    ∙ ap (λ (u : Vector). value_at v (centre_of x y) +ℤ pos 2 *ℤ (u.x *ℤ k)) e
    ∙ sym (value_at-columns_further v x y k))

true_and : (a b c : Bool) → IsTrue a → IsTrue b → IsTrue c → IsTrue (a && (b && c))
true_and true true true p q r = refl
true_and true true false p q r = cc
true_and true false c p q r = cc
true_and false b c p q r = cc

module _ (s : Shape) (shape : IsShape s) (x y : ℤ) (sums : Sums) (same : AreSumsAt s x y sums) (k : ℤ) where
  covered_from_tests : IsTrue (passes_in s.one sums.one k) → IsTrue (passes_in s.two sums.two k) → IsTrue (passes_in s.three sums.three k) → IsTrue (is_covered s.corners s.view (x +ℤ k) y)
  unfolding is_covered
  covered_from_tests p q r =
      true_and _ _ _
      (sym (passes_further s.one _ sums.one x y k shape.first_edge (first_weight _ _ x y _ same)) ∙ p)
      (sym (passes_further s.two _ sums.two x y k shape.second_edge (second_weight _ _ x y _ same)) ∙ q)
      (sym (passes_further s.three _ sums.three x y k shape.third_edge (third_weight _ _ x y _ same)) ∙ r)

  tests_from_covered : IsTrue (is_covered s.corners s.view (x +ℤ k) y) → IsTrue (passes_in s.one sums.one k) × IsTrue (passes_in s.two sums.two k) × IsTrue (passes_in s.three sums.three k)
  unfolding is_covered
  tests_from_covered t =
      let all = all_true _ _ _ t in (
        passes_further s.one _ sums.one x y k shape.first_edge (first_weight _ _ x y _ same) ∙ all.0,
        passes_further s.two _ sums.two x y k shape.second_edge (second_weight _ _ x y _ same) ∙ all.1,
        passes_further s.three _ sums.three x y k shape.third_edge (third_weight _ _ x y _ same) ∙ all.2,
      )

  pub covered_among : {A B C : Type 0} {a b c from to : ℤ} (count : ℕ) →
      A ↔ (((from ≤ℤ k) × (k <ℤ to)) × IsTrue (passes_in s.one a k)) →
      B ↔ (A × IsTrue (passes_in s.two b k)) →
      C ↔ (B × IsTrue (passes_in s.three c k)) →
      a ≡ sums.one → b ≡ sums.two → c ≡ sums.three → from ≡ pos 0 → to ≡ pos count →
      C ↔ IsCoveredAmong s x y count k
  covered_among {A} {B} {C} {a} {b} {c} {from} {to} count f g h ea eb ec ef et = (
    λ t.
        let third = h.0 t in
        let second = g.0 third.0 in
        let first = f.0 second.0 in
        let low = first.0.0 in
        let high = first.0.1 in (
          omega (arith, ints),
          omega (arith, ints),
          covered_from_tests
              (subst (λ (z : ℤ). IsTrue (passes_in s.one z k)) ea first.1)
              (subst (λ (z : ℤ). IsTrue (passes_in s.two z k)) eb second.1)
              (subst (λ (z : ℤ). IsTrue (passes_in s.three z k)) ec third.1),
        ),
    λ t.
        let low = t.0 in
        let high = t.1 in
        let tests = tests_from_covered t.2 in
        h.1 (
          g.1 (
            f.1 (
              (omega (arith, ints), omega (arith, ints)),
              subst (λ (z : ℤ). IsTrue (passes_in s.one z k)) (sym ea) tests.0,
            ),
            subst (λ (z : ℤ). IsTrue (passes_in s.two z k)) (sym eb) tests.1,
          ),
          subst (λ (z : ℤ). IsTrue (passes_in s.three z k)) (sym ec) tests.2,
        ),
  )
