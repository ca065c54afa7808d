-- All weights together, where they are the same everywhere.
use Rattle.std.proofs.Common.{◌≡◌, ◌*◌, ◌^◌, ℤ, pos, neg_ℤ, ◌+ℤ◌, ◌-ℤ◌, ◌*ℤ◌, ◌<ℤ◌, ◌≤ℤ◌, to_z, of_z, w32, w64, refl, sym, ap, ◌∙◌, arith}
use Rattle.std.specs.Int.{w128}
use Rattle.std.proofs.lemmas.Int.{ints}
use Rattle.triangle_raster.specs.declared.shape.Shape.{Shape}
use Rattle.triangle_raster.specs.Vertex.{IsWithin, Vector, centre_of, value_at}
use Rattle.triangle_raster.specs.Pixel.{weights_of}
use Rattle.triangle_raster.specs.Held.{edge_seen, whole_of, IsShape}
use Rattle.triangle_raster.proofs.Bounds.{within_product}
use Rattle.triangle_raster.proofs.Quotients.{product_rises}
use Rattle.triangle_raster.proofs.WholeNumbers.{product-sum, product_swapped}
use Rattle.triangle_raster.proofs.Shapes.{first_weight, second_weight, third_weight}

three_products : (a b c p : ℤ) → a *ℤ p +ℤ b *ℤ p +ℤ c *ℤ p ≡ (a +ℤ b +ℤ c) *ℤ p
three_products a b c p =
    omega (arith, ints, product_swapped (a +ℤ b +ℤ c) p, product-sum p (a +ℤ b) c, product-sum p a b)

no_product : (a p : ℤ) → a ≡ pos 0 → a *ℤ p ≡ pos 0
no_product a p e = ap (λ (z : ℤ). z *ℤ p) e ∙ omega (arith, ints)

three_values : (a b c : Vector) (x y : ℤ) → a.x +ℤ b.x +ℤ c.x ≡ pos 0 → a.y +ℤ b.y +ℤ c.y ≡ pos 0 →
    value_at a (centre_of x y) +ℤ value_at b (centre_of x y) +ℤ value_at c (centre_of x y) ≡ (a.d +ℤ b.d +ℤ c.d) *ℤ pos 2
unfolding value_at centre_of
three_values a b c x y across upward =
    omega (
      arith,
      ints,
      three_products a.x b.x c.x (pos 2 *ℤ x +ℤ pos 1),
      three_products a.y b.y c.y (pos 2 *ℤ y +ℤ pos 1),
      no_product (a.x +ℤ b.x +ℤ c.x) (pos 2 *ℤ x +ℤ pos 1) across,
      no_product (a.y +ℤ b.y +ℤ c.y) (pos 2 *ℤ y +ℤ pos 1) upward,
    )

module _ (s : Shape) (shape : IsShape s) (across : s.one.x +ℤ s.two.x +ℤ s.three.x ≡ pos 0) (upward : s.one.y +ℤ s.two.y +ℤ s.three.y ≡ pos 0) where
  pub whole_everywhere : {whole : ℤ} → whole ≡ (s.one.d +ℤ s.two.d +ℤ s.three.d) *ℤ pos 2 → (x y : ℤ) → whole_of (weights_of s.corners s.view x y) ≡ whole
  whole_everywhere {whole} e x y =
      let first = first_weight s.corners s.view x y _ refl ∙ ap (λ (v : Vector). value_at v (centre_of x y)) (sym shape.first_edge) in
      let second = second_weight s.corners s.view x y _ refl ∙ ap (λ (v : Vector). value_at v (centre_of x y)) (sym shape.second_edge) in
      let third = third_weight s.corners s.view x y _ refl ∙ ap (λ (v : Vector). value_at v (centre_of x y)) (sym shape.third_edge) in
      let all = three_values (edge_seen s.one) (edge_seen s.two) (edge_seen s.three) x y across upward in
      omega (arith, ints)

pub three_kept : {r a b c a' b' c' : ℤ} → r ≡ a' +ℤ b' +ℤ c' → a' ≡ a → b' ≡ b → c' ≡ c → r ≡ a +ℤ b +ℤ c
three_kept {r} {a} {b} {c} {a'} {b'} {c'} e p q s =
    e ∙ ap (λ (z : ℤ). z +ℤ b' +ℤ c') p ∙ ap (λ (z : ℤ). a +ℤ z +ℤ c') q ∙ ap (λ (z : ℤ). a +ℤ b +ℤ z) s

pub doubled : {h : ℤ} → pos 0 <ℤ h → h ≤ℤ pos 2305843009213693952 → to_z w64 (of_z w64 (to_z w64 (of_z w64 h) *ℤ pos 2)) ≡ h *ℤ pos 2
doubled some few = omega (arith, ints)

pub doubled_some : {h w : ℤ} → w ≡ h *ℤ pos 2 → pos 0 <ℤ h → pos 0 <ℤ w
doubled_some e some = omega (arith, ints)

pub doubled_few : {h w : ℤ} → w ≡ h *ℤ pos 2 → h ≤ℤ pos 2305843009213693952 → w ≤ℤ pos (2 ^ 62)
doubled_few e few = omega (arith, ints)

-- a corner that passed its test
pub from_near_kept : {w z : ℤ} → IsWithin (2 ^ 27) w → IsWithin (2 ^ 27) z → to_z w32 (of_z w32 (pos 0 -ℤ to_z w32 (of_z w32 w))) ≤ℤ to_z w32 (of_z w32 z) → neg_ℤ w ≤ℤ z
from_near_kept p q h = omega (arith, ints)

pub to_far_kept : {w z : ℤ} → IsWithin (2 ^ 27) w → IsWithin (2 ^ 27) z → to_z w32 (of_z w32 z) ≤ℤ to_z w32 (of_z w32 w) → z ≤ℤ w
to_far_kept p q h = omega (arith, ints)

pub positive_kept : {w : ℤ} → IsWithin (2 ^ 27) w → pos 0 <ℤ to_z w32 (of_z w32 w) → pos 0 <ℤ w
positive_kept p h = omega (arith, ints)

-- twice a product
product_positive : (a b : ℤ) → pos 0 <ℤ a → pos 0 <ℤ b → pos 0 <ℤ (a *ℤ b)
product_positive a b h k =
    let more : (a *ℤ pos 1) ≤ℤ (a *ℤ b) = product_rises a (pos 1) b (omega (arith, ints)) (omega (arith, ints)) in omega (arith, ints)

module _ (whole w : ℤ) (some : pos 0 <ℤ whole) (few : whole ≤ℤ pos (2 ^ 62)) (positive : pos 0 <ℤ w) (near : IsWithin (2 ^ 27) w) where
  pub divisor_some : {r : ℤ} → r ≡ pos 2 *ℤ (whole *ℤ w) → pos 0 <ℤ r
  divisor_some e = let more = product_positive whole w some positive in omega (arith, ints)

  pub divisor_few : {r : ℤ} → r ≡ pos 2 *ℤ (whole *ℤ w) → r ≤ℤ pos (2 ^ 120)
  divisor_few e =
      let small : IsWithin (2 ^ 62) whole = record { within = omega (arith, ints) } in
      let both : IsWithin (2 ^ 62 * 2 ^ 27) (whole *ℤ w) = within_product small near in
      omega (arith, ints)

  pub divisor_is_kept : {p : ℤ} → p ≡ whole *ℤ w → to_z w128 (of_z w128 (pos 2 *ℤ to_z w128 (of_z w128 p))) ≡ pos 2 *ℤ (whole *ℤ w)
  divisor_is_kept e =
      let small : IsWithin (2 ^ 62) whole = record { within = omega (arith, ints) } in
      let both : IsWithin (2 ^ 62 * 2 ^ 27) (whole *ℤ w) = within_product small near in
      omega (arith, ints)

pub product_kept : {r a b a' b' : ℤ} → r ≡ a' *ℤ b' → a' ≡ a → b' ≡ b → r ≡ a *ℤ b
product_kept {r} {a} {b} {a'} {b'} e p q = e ∙ ap (λ (z : ℤ). z *ℤ b') p ∙ ap (λ (z : ℤ). a *ℤ z) q

pub twice_kept : (n : ℤ) {r a a' : ℤ} → r ≡ pos 2 *ℤ (n *ℤ a') → a' ≡ a → r ≡ pos 2 *ℤ (n *ℤ a)
twice_kept n {r} {a} {a'} e p = e ∙ ap (λ (z : ℤ). pos 2 *ℤ (n *ℤ z)) p
