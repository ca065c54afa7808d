-- Sums by weight from column to column, and triangles whose depth is the same in every column of a row.
use Rattle.std.proofs.Common.{◌≡◌, ◌^◌, true, nat_eq, ℤ, pos, ◌+ℤ◌, ◌*ℤ◌, of_z, refl, sym, ap, ◌∙◌, arith, lit≤}
use Rattle.std.specs.Prelude.{Some, None, if◌then◌else◌}
use Rattle.std.specs.Int.{w128}
use Rattle.std.proofs.lemmas.Bool.{eqb-true}
use Rattle.std.proofs.lemmas.Int.{ints}
use Rattle.triangle_raster.specs.declared.shape.Shape.{Shape}
use Rattle.triangle_raster.specs.declared.sums.Sums.{Sums}
use Rattle.triangle_raster.specs.Vertex.{Vector, IsWithin, centre_of, value_at}
use Rattle.triangle_raster.specs.Pixel.{Weights, depth_of, is_kept, w_at, weighted, z_at}
use Rattle.triangle_raster.specs.Held.{depth_at, edge_seen, steps_of, sums_seen, AreSumsAt, IsLevel, IsShape}
use Rattle.triangle_raster.proofs.Bounds.{zero_from_bits}
use Rattle.triangle_raster.proofs.WholeNumbers.{product-sum, product_swapped}
use Rattle.triangle_raster.proofs.Edges.{value_at-next_column}
use Rattle.triangle_raster.proofs.Shapes.{first_weight, second_weight, third_weight}

twice : (w v : ℤ) → w +ℤ pos 2 *ℤ v ≡ w +ℤ (v +ℤ v)
twice w v = omega (arith, ints)

grown_product : (a w v u : ℤ) → u ≡ w +ℤ pos 2 *ℤ v → u *ℤ a ≡ w *ℤ a +ℤ pos 2 *ℤ (v *ℤ a)
grown_product a w v u e =
    ap (λ (z : ℤ). z *ℤ a) e
    ∙ product_swapped (w +ℤ pos 2 *ℤ v) a
    ∙ ap (λ (z : ℤ). a *ℤ z) (twice w v)
    ∙ product-sum a w (v +ℤ v)
    ∙ omega (arith, ints, product-sum a v v)

-- where each weight grows by twice a step, a sum by weight grows by twice the sum by the steps
weighted-grown : (w v u : Weights) (a b c : ℤ) → u.one ≡ w.one +ℤ pos 2 *ℤ v.one → u.two ≡ w.two +ℤ pos 2 *ℤ v.two → u.three ≡ w.three +ℤ pos 2 *ℤ v.three →
    weighted u a b c ≡ weighted w a b c +ℤ pos 2 *ℤ weighted v a b c
unfolding weighted
weighted-grown w v u a b c p q r =
    omega (arith, ints, grown_product a w.one v.one u.one p, grown_product b w.two v.two u.two q, grown_product c w.three v.three u.three r)

no_growth : (a b : ℤ) → b ≡ pos 0 → a +ℤ pos 2 *ℤ b ≡ a
no_growth a b e = omega (arith, ints)

module _ (s : Shape) (shape : IsShape s) (x y : ℤ) (sums next : Sums) (here : AreSumsAt s x y sums) (there : AreSumsAt s (x +ℤ pos 1) y next) where
  step_from : (edge v : Vector) (a b e : ℤ) → edge ≡ v → a ≡ value_at v (centre_of x y) → b ≡ value_at v (centre_of (x +ℤ pos 1) y) → e ≡ edge.x → b ≡ a +ℤ pos 2 *ℤ e
  step_from edge v a b e same h k l =
      k ∙ value_at-next_column v x y
      ∙ ap (λ (z : ℤ). z +ℤ pos 2 *ℤ v.x) (sym h)
      ∙ ap (λ (u : Vector). a +ℤ pos 2 *ℤ u.x) (sym same)
      ∙ ap (λ (z : ℤ). a +ℤ pos 2 *ℤ z) (sym l)

  pub grown_by : (a b c : ℤ) → weighted (sums_seen next) a b c ≡ weighted (sums_seen sums) a b c +ℤ pos 2 *ℤ weighted (steps_of s) a b c
  grown_by a b c =
      weighted-grown (sums_seen sums) (steps_of s) (sums_seen next) a b c
      (step_from (edge_seen s.one) _ sums.one next.one s.one.x shape.first_edge (first_weight _ _ x y _ here) (first_weight _ _ (x +ℤ pos 1) y _ there) refl)
      (step_from (edge_seen s.two) _ sums.two next.two s.two.x shape.second_edge (second_weight _ _ x y _ here) (second_weight _ _ (x +ℤ pos 1) y _ there) refl)
      (step_from (edge_seen s.three) _ sums.three next.three s.three.x shape.third_edge (third_weight _ _ x y _ here) (third_weight _ _ (x +ℤ pos 1) y _ there) refl)

  z_at-level : z_at s.corners (steps_of s) ≡ pos 0 → z_at s.corners (sums_seen next) ≡ z_at s.corners (sums_seen sums)
  unfolding z_at
  z_at-level none = grown_by _ _ _ ∙ no_growth _ _ none

  w_at-level : w_at s.corners (steps_of s) ≡ pos 0 → w_at s.corners (sums_seen next) ≡ w_at s.corners (sums_seen sums)
  unfolding w_at
  w_at-level none = grown_by _ _ _ ∙ no_growth _ _ none

  -- the depth of the next column is that of this one
  pub depth_at-level : IsLevel s → depth_at s.corners (sums_seen next) ≡ depth_at s.corners (sums_seen sums)
  unfolding depth_at
  depth_at-level level =
      ap (λ (z : ℤ). if is_kept z (w_at s.corners (sums_seen next)) then Some (depth_of z (w_at s.corners (sums_seen next))) else None) (z_at-level level.same_z)
      ∙ ap (λ (z : ℤ). if is_kept (z_at s.corners (sums_seen sums)) z then Some (depth_of (z_at s.corners (sums_seen sums)) z) else None) (w_at-level level.same_w)

-- what the code finds of the sums by the steps
pub level_from_sums : (s : Shape) {w : Weights} {z v : ℤ} → w ≡ steps_of s → z ≡ z_at s.corners w → v ≡ w_at s.corners w →
    IsWithin (2 ^ 110) z → IsWithin (2 ^ 110) v → of_z w128 z ≡ 0 → nat_eq (of_z w128 v) 0 ≡ true → IsLevel s
level_from_sums s {w} {z} {v} same at_z at_w near_z near_w e t = record {
  same_z = sym (ap (λ (u : Weights). z_at s.corners u) same) ∙ sym at_z ∙ zero_from_bits near_z (lit≤ tt) e;
  same_w = sym (ap (λ (u : Weights). w_at s.corners u) same) ∙ sym at_w ∙ zero_from_bits near_w (lit≤ tt) (eqb-true _ 0 t);
}
