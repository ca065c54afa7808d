-- What the code keeps of a triangle stands for its edges, its sums and its tests.
use Rattle.std.proofs.Common.{◌≡◌, Bool, false, ◌&&◌, ℤ, pos, ◌+ℤ◌, ◌*ℤ◌, ◌<ℤ◌, ◌↔◌, List, ap, sym, subst, ◌∙◌, arith}
use Rattle.std.specs.Prelude.{IsTrue, int_lt}
use Rattle.std.proofs.lemmas.Int.{ints}
use Rattle.triangle_raster.specs.declared.edge.Point.{Point}
use Rattle.triangle_raster.specs.declared.edge.Edge.{Edge}
use Rattle.triangle_raster.specs.declared.sums.Sums.{Sums}
use Rattle.triangle_raster.specs.declared.shape.Shape.{Shape}
use Rattle.triangle_raster.specs.declared.vertex.Vertex.{Vertex}
use Rattle.triangle_raster.specs.declared.vertex.View.{View}
use Rattle.triangle_raster.specs.Vertex.{Vector, centre_of, edge_through, value_at}
use Rattle.triangle_raster.specs.Pixel.{Weights, above_or, delta_of, edge_of, inward, is_covered, passes, place, weights_of}
use Rattle.triangle_raster.specs.Held.{point_seen, edge_seen, AreSumsAt, IsShape}
use Rattle.triangle_raster.proofs.Vectors.{same_weights}
use Rattle.triangle_raster.proofs.Edges.{passes_as_seen, value_at-next_column}

pub value_as_seen : {edge : Edge} {point : Point} {v p : Vector} {r z : ℤ} → edge_seen edge ≡ v → point_seen point ≡ p → z ≡ value_at (edge_seen edge) (point_seen point) → r ≡ z → r ≡ value_at v p
value_as_seen {edge} {point} {v} {p} e h same kept =
    kept ∙ same ∙ ap (λ (u : Vector). value_at u (point_seen point)) e ∙ ap (λ (q : Vector). value_at v q) h

pub centre_as_seen : {point : Point} {x y x' y' : ℤ} → point_seen point ≡ centre_of x' y' → x' ≡ x → y' ≡ y → point_seen point ≡ centre_of x y
centre_as_seen {point} {x} {y} {x'} {y'} e h k = e ∙ ap (λ (z : ℤ). centre_of z y') h ∙ ap (λ (z : ℤ). centre_of x z) k

pub edge_as_seen : {edge : Edge} {a b : Point} {v w : Vector} → edge_seen edge ≡ edge_through (point_seen a) (point_seen b) → point_seen a ≡ v → point_seen b ≡ w → edge_seen edge ≡ edge_through v w
edge_as_seen {edge} {a} {b} {v} {w} e h k =
    e ∙ ap (λ (u : Vector). edge_through u (point_seen b)) h ∙ ap (λ (u : Vector). edge_through v u) k

pub inward_as_seen : {result edge : Edge} {given delta : ℤ} {v : Vector} → edge_seen result ≡ inward given (edge_seen edge) → given ≡ delta → edge_seen edge ≡ v → edge_seen result ≡ inward delta v
inward_as_seen {result} {edge} {given} {delta} {v} e d h =
    e ∙ ap (λ (z : ℤ). inward z (edge_seen edge)) d ∙ ap (λ (u : Vector). inward delta u) h

pub winding_as_seen : {r delta : ℤ} → r ≡ delta → IsTrue (int_lt (pos 0) r) ↔ (pos 0 <ℤ delta)
winding_as_seen {r} e =
    subst (λ (z : ℤ). IsTrue (int_lt (pos 0) r) ↔ (pos 0 <ℤ z)) e (grind (arith, ints))

-- the three weights, one by one
module _ (corners : List Vertex) (view : View) (x y : ℤ) where
  pub first_weight : (w : Weights) → w ≡ weights_of corners view x y → w.one ≡ value_at (edge_of corners view 0) (centre_of x y)
  unfolding weights_of
  first_weight w e = ap (λ (v : Weights). v.one) e

  pub second_weight : (w : Weights) → w ≡ weights_of corners view x y → w.two ≡ value_at (edge_of corners view 1) (centre_of x y)
  unfolding weights_of
  second_weight w e = ap (λ (v : Weights). v.two) e

  pub third_weight : (w : Weights) → w ≡ weights_of corners view x y → w.three ≡ value_at (edge_of corners view 2) (centre_of x y)
  unfolding weights_of
  third_weight w e = ap (λ (v : Weights). v.three) e

  pub from_weights : {a b c : ℤ} → a ≡ value_at (edge_of corners view 0) (centre_of x y) → b ≡ value_at (edge_of corners view 1) (centre_of x y) → c ≡ value_at (edge_of corners view 2) (centre_of x y) → record { one = a; two = b; three = c } ≡ weights_of corners view x y
  unfolding weights_of
  from_weights p q r = same_weights p q r

-- a triangle's sums pass its tests as its weights do, and one column further they grow by twice the edges' first parts
module _ (s : Shape) (shape : IsShape s) (x y : ℤ) (sums : Sums) (same : AreSumsAt s x y sums) where
  pub covers_as_seen : (a b c : Bool) →
      a ≡ above_or sums.one (above_or s.one.x (above_or s.one.y false)) →
      b ≡ above_or sums.two (above_or s.two.x (above_or s.two.y false)) →
      c ≡ above_or sums.three (above_or s.three.x (above_or s.three.y false)) →
      (a && (b && c)) ≡ is_covered s.corners s.view x y
  unfolding is_covered
  covers_as_seen a b c p q r =
      let first : a ≡ passes (edge_of s.corners s.view 0) (centre_of x y) =
      p ∙ passes_as_seen s.one _ _ sums.one shape.first_edge (first_weight _ _ x y _ same)
      in
      let second : b ≡ passes (edge_of s.corners s.view 1) (centre_of x y) =
      q ∙ passes_as_seen s.two _ _ sums.two shape.second_edge (second_weight _ _ x y _ same)
      in
      let third : c ≡ passes (edge_of s.corners s.view 2) (centre_of x y) =
      r ∙ passes_as_seen s.three _ _ sums.three shape.third_edge (third_weight _ _ x y _ same)
      in
      ap (λ (k : Bool). k && (b && c)) first
      ∙ ap (λ (k : Bool). passes (edge_of s.corners s.view 0) (centre_of x y) && (k && c)) second
      ∙ ap (λ (k : Bool). passes (edge_of s.corners s.view 0) (centre_of x y) && (passes (edge_of s.corners s.view 1) (centre_of x y) && k)) third

  grown : (edge : Edge) (v : Vector) (sum next : ℤ) → edge_seen edge ≡ v → sum ≡ value_at v (centre_of x y) → next ≡ sum +ℤ pos 2 *ℤ edge.x → next ≡ value_at v (centre_of (x +ℤ pos 1) y)
  grown edge v sum next e h step =
      step
      ∙ ap (λ (z : ℤ). z +ℤ pos 2 *ℤ edge.x) h
      ∙ ap (λ (u : Vector). value_at v (centre_of x y) +ℤ pos 2 *ℤ u.x) e
      ∙ sym (value_at-next_column v x y)

  pub next_sums_as_seen : (a b c : ℤ) → a ≡ sums.one +ℤ pos 2 *ℤ s.one.x → b ≡ sums.two +ℤ pos 2 *ℤ s.two.x → c ≡ sums.three +ℤ pos 2 *ℤ s.three.x → record { one = a; two = b; three = c } ≡ weights_of s.corners s.view (x +ℤ pos 1) y
  next_sums_as_seen a b c p q r =
      from_weights _ _ _ _
      (grown s.one _ sums.one a shape.first_edge (first_weight _ _ x y _ same) p)
      (grown s.two _ sums.two b shape.second_edge (second_weight _ _ x y _ same) q)
      (grown s.three _ sums.three c shape.third_edge (third_weight _ _ x y _ same) r)

-- the determinant and the edges of three corners, from what was computed of them
module _ (corners : List Vertex) (view : View) {first second third : Point} (at_first : point_seen first ≡ place corners view 0) (at_second : point_seen second ≡ place corners view 1) (at_third : point_seen third ≡ place corners view 2) where
  pub delta_as_seen : (one : Edge) {r z : ℤ} → edge_seen one ≡ edge_through (point_seen second) (point_seen third) → z ≡ value_at (edge_seen one) (point_seen first) → r ≡ z → r ≡ delta_of corners view
  unfolding delta_of
  delta_as_seen one e same kept = value_as_seen (edge_as_seen e at_second at_third) at_first same kept

  module _ {given : ℤ} (delta : given ≡ delta_of corners view) where
    pub first_edge_as_seen : (result one : Edge) → edge_seen result ≡ inward given (edge_seen one) → edge_seen one ≡ edge_through (point_seen second) (point_seen third) → edge_seen result ≡ edge_of corners view 0
    unfolding edge_of
    first_edge_as_seen result one e h = inward_as_seen e delta (edge_as_seen h at_second at_third)

    pub second_edge_as_seen : (result two : Edge) → edge_seen result ≡ inward given (edge_seen two) → edge_seen two ≡ edge_through (point_seen third) (point_seen first) → edge_seen result ≡ edge_of corners view 1
    unfolding edge_of
    second_edge_as_seen result two e h = inward_as_seen e delta (edge_as_seen h at_third at_first)

    pub third_edge_as_seen : (result three : Edge) → edge_seen result ≡ inward given (edge_seen three) → edge_seen three ≡ edge_through (point_seen first) (point_seen second) → edge_seen result ≡ edge_of corners view 2
    unfolding edge_of
    third_edge_as_seen result three e h = inward_as_seen e delta (edge_as_seen h at_first at_second)
