-- Edges turned inward, their tests, and their values from column to column.
use Rattle.std.proofs.Common.{◌≡◌, Bool, true, false, ℤ, pos, ◌+ℤ◌, ◌*ℤ◌, ◌≤ℤ◌, ◌<ℤ◌, ap, subst, ◌∙◌, arith}
use Rattle.std.specs.Prelude.{int_lt, if◌then◌else◌}
use Rattle.std.proofs.lemmas.Int.{ints}
use Rattle.triangle_raster.specs.declared.edge.Edge.{Edge}
use Rattle.triangle_raster.specs.Vertex.{Vector, centre_of, turned, value_at}
use Rattle.triangle_raster.specs.Pixel.{above_or, inward, passes}
use Rattle.triangle_raster.specs.Held.{edge_seen}
use Rattle.triangle_raster.proofs.WholeNumbers.{product-sum}

pub inward-negative : (delta : ℤ) (edge : Vector) → delta <ℤ pos 0 → inward delta edge ≡ turned edge
unfolding inward
inward-negative delta edge h =
    let e : int_lt delta (pos 0) ≡ true = grind (arith, ints) in
    ap (λ (b : Bool). if b then turned edge else edge) e

pub inward-other : (delta : ℤ) (edge : Vector) → pos 0 ≤ℤ delta → inward delta edge ≡ edge
unfolding inward
inward-other delta edge h =
    let e : int_lt delta (pos 0) ≡ false = grind (arith, ints) in
    ap (λ (b : Bool). if b then turned edge else edge) e

-- what the code computes for an edge that stands for v is the test of v
pub passes_as_seen : (edge : Edge) (v p : Vector) (value : ℤ) → edge_seen edge ≡ v → value ≡ value_at v p → above_or value (above_or edge.x (above_or edge.y false)) ≡ passes v p
unfolding passes
passes_as_seen edge v p value e h =
    subst
    (λ (u : Vector). value ≡ value_at u p → above_or value (above_or edge.x (above_or edge.y false)) ≡ above_or (value_at u p) (above_or u.x (above_or u.y false)))
    e
    (λ (k : value ≡ value_at (edge_seen edge) p). ap (λ (z : ℤ). above_or z (above_or edge.x (above_or edge.y false))) k)
    h

-- two more in the first part: the product grows by twice the factor
stepped_product : (x a : ℤ) → a *ℤ (pos 2 *ℤ (x +ℤ pos 1) +ℤ pos 1) ≡ a *ℤ (pos 2 *ℤ x +ℤ pos 1) +ℤ pos 2 *ℤ a
stepped_product x a =
    let same : pos 2 *ℤ (x +ℤ pos 1) +ℤ pos 1 ≡ (pos 2 *ℤ x +ℤ pos 1) +ℤ pos 2 = omega (arith, ints) in
    ap (λ (z : ℤ). a *ℤ z) same ∙ product-sum a (pos 2 *ℤ x +ℤ pos 1) (pos 2) ∙ omega (arith, ints)

-- from column to column an edge's value grows by twice its first part
pub value_at-next_column : (edge : Vector) (x y : ℤ) → value_at edge (centre_of (x +ℤ pos 1) y) ≡ value_at edge (centre_of x y) +ℤ pos 2 *ℤ edge.x
unfolding value_at centre_of
value_at-next_column edge x y = omega (arith, ints, stepped_product x edge.x)

further_product : (x k a : ℤ) → a *ℤ (pos 2 *ℤ (x +ℤ k) +ℤ pos 1) ≡ a *ℤ (pos 2 *ℤ x +ℤ pos 1) +ℤ pos 2 *ℤ (a *ℤ k)
further_product x k a =
    let same : pos 2 *ℤ (x +ℤ k) +ℤ pos 1 ≡ (pos 2 *ℤ x +ℤ pos 1) +ℤ (k +ℤ k) = omega (arith, ints) in
    ap (λ (z : ℤ). a *ℤ z) same ∙ product-sum a (pos 2 *ℤ x +ℤ pos 1) (k +ℤ k) ∙ omega (arith, ints, product-sum a k k)

-- k columns further it has grown by twice k times its first part
pub value_at-columns_further : (edge : Vector) (x y k : ℤ) → value_at edge (centre_of (x +ℤ k) y) ≡ value_at edge (centre_of x y) +ℤ pos 2 *ℤ (edge.x *ℤ k)
unfolding value_at centre_of
value_at-columns_further edge x y k = omega (arith, ints, further_product x k edge.x)
