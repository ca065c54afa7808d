-- Rows: which columns there are, and what is left after one of them.
use Rattle.std.proofs.Common.{◌≡◌, ℕ, ◌*◌, ◌^◌, Bool, true, false, ◌&&◌, ℤ, pos, negsuc, ◌+ℤ◌, ◌-ℤ◌, ◌*ℤ◌, ◌≤ℤ◌, List, [], refl, sym, ap, subst, ◌∙◌, arith, lit≤}
use Rattle.std.specs.Prelude.{int_le, int_lt, if◌then◌else◌}
use Rattle.std.proofs.lemmas.Int.{ints}
use Rattle.triangle_raster.specs.declared.vertex.Vertex.{Vertex}
use Rattle.triangle_raster.specs.declared.vertex.View.{View}
use Rattle.triangle_raster.specs.declared.vertex.Area.{Area}
use Rattle.triangle_raster.specs.declared.edge.Edge.{Edge}
use Rattle.triangle_raster.specs.declared.shape.Shape.{Shape}
use Rattle.triangle_raster.specs.declared.sums.Sums.{Sums}
use Rattle.triangle_raster.specs.Vertex.{Vector, IsArea, IsFromTo, IsWithin, centre_of, value_at}
use Rattle.triangle_raster.specs.Row.{columns_of, count_of, numbers_from, pixels_at}
use Rattle.triangle_raster.specs.Held.{edge_seen, AreNearSums, AreSumsAt, IsNearEdge, IsShape}
use Rattle.triangle_raster.proofs.Bounds.{within_product, within_same, sum_near}
use Rattle.triangle_raster.proofs.Shapes.{first_weight, second_weight, third_weight}

first_true : (a b : Bool) → (a && b) ≡ true → a ≡ true
first_true true b e = refl
first_true false b e = e

second_true : (a b : Bool) → (a && b) ≡ true → b ≡ true
second_true true b e = e
second_true false b e = cc

-- the columns of an area end in the frame
count_of-right : (left right : ℤ) → IsFromTo (pos 0) (pos 256) left → IsFromTo (pos 0) (pos 256) right → (z : ℤ) → z ≡ right -ℤ left → (left +ℤ pos (count_of z)) ≤ℤ pos 256
count_of-right left right h k (pos n) e = omega (arith, ints)
count_of-right left right h k (negsuc n) e = omega (arith, ints)

columns_end : (area : Area) → IsArea area → (area.left +ℤ pos (count_of (area.right -ℤ area.left))) ≤ℤ pos 256
columns_end area h = count_of-right area.left area.right h.from_left h.to_right (area.right -ℤ area.left) refl

pub columns_end_kept : (area : Area) → IsArea area → {left : ℤ} {n : ℕ} → left ≡ area.left → n ≡ count_of (area.right -ℤ area.left) → (left +ℤ pos n) ≤ℤ pos 256
columns_end_kept area h {left} {n} e k =
    subst (λ (z : ℤ). (z +ℤ pos n) ≤ℤ pos 256) (sym e)
    (subst (λ (m : ℕ). (area.left +ℤ pos m) ≤ℤ pos 256) (sym k) (columns_end area h))

-- the columns of a row inside the area, and of one outside
module _ (area : Area) (y : ℤ) where
  pub has_row_kept : {y' : ℤ} → y' ≡ y → (int_le area.bottom y' && int_lt y' area.top) ≡ (int_le area.bottom y && int_lt y area.top)
  has_row_kept e = ap (λ (z : ℤ). int_le area.bottom z && int_lt z area.top) e

  pub columns_of-inside : (int_le area.bottom y && int_lt y area.top) ≡ true → columns_of area y ≡ numbers_from area.left (count_of (area.right -ℤ area.left))
  columns_of-inside e = ap (λ (b : Bool). if b then numbers_from area.left (count_of (area.right -ℤ area.left)) else []) e

  pub columns_of-outside : (int_le area.bottom y && int_lt y area.top) ≡ false → columns_of area y ≡ []
  columns_of-outside e = ap (λ (b : Bool). if b then numbers_from area.left (count_of (area.right -ℤ area.left)) else []) e

  -- a row inside lies in the frame
  pub row_in_frame : IsArea area → (int_le area.bottom y && int_lt y area.top) ≡ true → IsFromTo (pos 0) (pos 256) y
  row_in_frame h e =
      let low : int_le area.bottom y ≡ true = first_true (int_le area.bottom y) (int_lt y area.top) e in
      let high : int_lt y area.top ≡ true = second_true (int_le area.bottom y) (int_lt y area.top) e in
      let from : pos 0 ≤ℤ area.bottom = h.from_bottom.0 in
      let to : area.top ≤ℤ pos 256 = h.to_top.1 in
      (omega (arith, ints), omega (arith, ints))

module _ (corners : List Vertex) (view : View) where
  -- columns and rows that were passed and are what they were
  pub pixels_at-kept : {x y x' y' : ℤ} {n n' : ℕ} → y' ≡ y → x' ≡ x → n' ≡ n → pixels_at corners view y' (numbers_from x' n') ≡ pixels_at corners view y (numbers_from x n)
  pixels_at-kept {x} {y} {x'} {y'} {n} {n'} p q r =
      ap (λ (z : ℤ). pixels_at corners view z (numbers_from x' n')) p
      ∙ ap (λ (z : ℤ). pixels_at corners view y (numbers_from z n')) q
      ∙ ap (λ (k : ℕ). pixels_at corners view y (numbers_from x k)) r

-- the value of a bounded edge at a centre of the frame, and the sums there
value_at-near : (edge : Edge) → IsNearEdge edge → (x y : ℤ) → IsFromTo (pos 0) (pos 256) x → IsFromTo (pos 0) (pos 256) y → IsWithin (2 ^ 81) (value_at (edge_seen edge) (centre_of x y))
unfolding value_at centre_of
value_at-near edge near x y h k =
    let column : IsWithin (2 ^ 10) (pos 2 *ℤ x +ℤ pos 1) = record { within = omega (arith, ints) } in
    let line : IsWithin (2 ^ 10) (pos 2 *ℤ y +ℤ pos 1) = record { within = omega (arith, ints) } in
    let two : IsWithin 2 (pos 2) = record { within = lit≤ tt } in
    let first : IsWithin (2 ^ 68 * 2 ^ 10) (edge.x *ℤ (pos 2 *ℤ x +ℤ pos 1)) = within_product near.across column in
    let second : IsWithin (2 ^ 68 * 2 ^ 10) (edge.y *ℤ (pos 2 *ℤ y +ℤ pos 1)) = within_product near.upward line in
    let third : IsWithin (2 ^ 79 * 2) (edge.d *ℤ pos 2) = within_product near.divisor two in
    let both : IsWithin (2 ^ 79) (edge.x *ℤ (pos 2 *ℤ x +ℤ pos 1) +ℤ edge.y *ℤ (pos 2 *ℤ y +ℤ pos 1)) = sum_near first second (2 ^ 79) (lit≤ tt) in
    sum_near both third (2 ^ 81) (lit≤ tt)

pub near_sums : (s : Shape) → IsShape s → (x y : ℤ) → IsFromTo (pos 0) (pos 256) x → IsFromTo (pos 0) (pos 256) y → (sums : Sums) → AreSumsAt s x y sums → AreNearSums sums
near_sums s shape x y h k sums same = record {
  near_one = within_same _ (first_weight _ _ x y _ same ∙ ap (λ (v : Vector). value_at v (centre_of x y)) (sym shape.first_edge)) (value_at-near s.one shape.first_near x y h k);
  near_two = within_same _ (second_weight _ _ x y _ same ∙ ap (λ (v : Vector). value_at v (centre_of x y)) (sym shape.second_edge)) (value_at-near s.two shape.second_near x y h k);
  near_three = within_same _ (third_weight _ _ x y _ same ∙ ap (λ (v : Vector). value_at v (centre_of x y)) (sym shape.third_edge)) (value_at-near s.three shape.third_near x y h k);
}
