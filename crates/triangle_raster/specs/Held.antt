-- What the private structs of the code stand for, and within which bounds they keep.
use Rattle.std.specs.Prelude.{◌≡◌, ◌≢◌, ◌^◌, ◌<◌, ◌≤◌, ℕ, ℤ, pos, ◌+ℤ◌, ◌*ℤ◌, ◌<ℤ◌, ◌≤ℤ◌, ◌↔◌, Bool, true, false, IsTrue, List, length, Option, Some, None, neg_ℤ, if◌then◌else◌}
use Rattle.triangle_raster.specs.declared.fragment.Fragment.{Fragment}
use Rattle.triangle_raster.specs.declared.fragment.Spot.{Spot}
use Rattle.triangle_raster.specs.declared.vertex.Vertex.{Vertex}
use Rattle.triangle_raster.specs.declared.span.Span.{Span}
use Rattle.triangle_raster.specs.declared.walk.Walk.{Walk}
use Rattle.triangle_raster.specs.declared.edge.Point.{Point}
use Rattle.triangle_raster.specs.declared.edge.Edge.{Edge}
use Rattle.triangle_raster.specs.declared.sums.Sums.{Sums}
use Rattle.triangle_raster.specs.declared.shape.Shape.{Shape}
use Rattle.triangle_raster.specs.declared.columns.Columns.{Columns}
use Rattle.triangle_raster.specs.declared.rates.Rates.{Rates}
use Rattle.triangle_raster.specs.declared.steps.Steps.{Steps}
use Rattle.triangle_raster.specs.declared.carry.Carries.{Carries}
use Rattle.triangle_raster.specs.declared.carry.LongCarry.{LongCarry}
use Rattle.triangle_raster.specs.Carry.{AreCarries, IsCarry}
use Rattle.triangle_raster.specs.Vertex.{Vector, corner, IsWithin, IsFromTo, IsView, AreCorners}
use Rattle.triangle_raster.specs.Pixel.{Weights, above_or, delta_of, depth_of, edge_of, is_covered, is_kept, w_at, weighted, weights_of, z_at}
use Rattle.triangle_raster.specs.Row.{numbers_from, pixels_at}
use Rattle.triangle_raster.specs.Ranges.{number_at}

-- a point as a vector
abbrev pub point_seen : Point → Vector
point_seen p = record { x = p.x; y = p.y; d = p.d }

-- an edge as a vector
abbrev pub edge_seen : Edge → Vector
edge_seen e = record { x = e.x; y = e.y; d = e.d }

-- sums as weights
abbrev pub sums_seen : Sums → Weights
sums_seen s = record { one = s.one; two = s.two; three = s.three }

-- the bounds of a corner's point
pub record IsNearPoint (p : Point) : Type 0 where
  pub across : IsWithin (2 ^ 39) p.x
  pub upward : IsWithin (2 ^ 39) p.y
  pub divisor : IsWithin (2 ^ 28) p.d

-- the bounds of a pixel's centre
pub record IsNearCentre (p : Point) : Type 0 where
  pub across : IsWithin (2 ^ 10) p.x
  pub upward : IsWithin (2 ^ 10) p.y
  pub divisor : IsWithin 2 p.d

-- the bounds of an edge between two corners' points
pub record IsNearEdge (e : Edge) : Type 0 where
  pub across : IsWithin (2 ^ 68) e.x
  pub upward : IsWithin (2 ^ 68) e.y
  pub divisor : IsWithin (2 ^ 79) e.d

-- the bounds of an edge whose values at centres fit in 64 bits
pub record IsSmallEdge (e : Edge) : Type 0 where
  pub small_across : IsWithin (2 ^ 50) e.x
  pub small_upward : IsWithin (2 ^ 50) e.y
  pub small_divisor : IsWithin (2 ^ 60) e.d

-- the bounds of the sums at a pixel
pub record AreNearSums (s : Sums) : Type 0 where
  pub near_one : IsWithin (2 ^ 81) s.one
  pub near_two : IsWithin (2 ^ 81) s.two
  pub near_three : IsWithin (2 ^ 81) s.three

-- no weight is below zero
pub record AreNotNegative (s : Sums) : Type 0 where
  pub from_one : pos 0 ≤ℤ s.one
  pub from_two : pos 0 ≤ℤ s.two
  pub from_three : pos 0 ≤ℤ s.three

-- the corners don't stand on a line, and the edges are theirs
pub record IsShape (s : Shape) : Type 0 where
  pub corners_hold : AreCorners s.corners
  pub view_holds : IsView s.view
  pub not_flat : delta_of s.corners s.view ≢ pos 0
  pub first_edge : edge_seen s.one ≡ edge_of s.corners s.view 0
  pub second_edge : edge_seen s.two ≡ edge_of s.corners s.view 1
  pub third_edge : edge_seen s.three ≡ edge_of s.corners s.view 2
  pub first_near : IsNearEdge s.one
  pub second_near : IsNearEdge s.two
  pub third_near : IsNearEdge s.three
  pub winding : IsTrue s.counter_clockwise ↔ (pos 0 <ℤ delta_of s.corners s.view)
  pub first_small : IsTrue s.small → IsSmallEdge s.one
  pub second_small : IsTrue s.small → IsSmallEdge s.two
  pub third_small : IsTrue s.small → IsSmallEdge s.three

-- the sums are the values of the edges at the centre in column x and row y
abbrev pub AreSumsAt : Shape → ℤ → ℤ → Sums → Type 0
AreSumsAt s x y sums = sums_seen sums ≡ weights_of s.corners s.view x y

-- a column of the span
abbrev pub IsIn : Span → ℤ → Type 0
IsIn s k = (s.from ≤ℤ k) × (k <ℤ s.to)

-- the span lies in a row of the frame
pub record IsSpan (s : Span) : Type 0 where
  pub starts : pos 0 ≤ℤ s.from
  pub in_order : s.from ≤ℤ s.to
  pub ends : s.to ≤ℤ pos 256

-- the test of an edge in column k, where its value in column 0 is this sum
abbrev pub passes_in : Edge → ℤ → ℤ → Bool
passes_in e sum k = above_or (sum +ℤ pos 2 *ℤ (e.x *ℤ k)) (above_or e.x (above_or e.y false))

-- column k is one of so many from column x on, and the triangle covers its centre
abbrev pub IsCoveredAmong : Shape → ℤ → ℤ → ℕ → ℤ → Type 0
IsCoveredAmong s x y count k = (pos 0 ≤ℤ k) × (k <ℤ pos count) × IsTrue (is_covered s.corners s.view (x +ℤ k) y)

-- the depth of a point with these weights, or none where it is not kept
unfoldable pub depth_at : List Vertex → Weights → Option ℕ
depth_at corners w = if is_kept (z_at corners w) (w_at corners w) then Some (depth_of (z_at corners w) (w_at corners w)) else None

-- the depth of the covered points of corners with one z and one w, or none where they are not kept
unfoldable pub even_depth : ℤ → ℤ → Option ℕ
even_depth z w = if is_kept z w then Some (depth_of z w) else None

-- by how much the weights grow, halved, from column to column
abbrev pub steps_of : Shape → Weights
steps_of s = record { one = s.one.x; two = s.two.x; three = s.three.x }

-- the corners' z by weight, and their w, are the same in every column of a row
pub record IsLevel (s : Shape) : Type 0 where
  pub same_z : z_at s.corners (steps_of s) ≡ pos 0
  pub same_w : w_at s.corners (steps_of s) ≡ pos 0

-- the values of the three corners are the same from one place on
abbrev pub AreSameFrom : List Vertex → ℕ → Type 0
AreSameFrom corners start =
    (k : ℕ) → start ≤ k → k < 10 →
    (number_at (corner corners 0).values k ≡ number_at (corner corners 1).values k) × (number_at (corner corners 0).values k ≡ number_at (corner corners 2).values k)

-- each of the three corners carries ten values
pub record HaveTenValues (corners : List Vertex) : Type 0 where
  pub first_ten : length (corner corners 0).values ≡ 10
  pub second_ten : length (corner corners 1).values ≡ 10
  pub third_ten : length (corner corners 2).values ≡ 10

-- the sum of value k of the corners by weight
abbrev pub sum_at : List Vertex → Weights → ℕ → ℤ
sum_at corners w k = weighted w (number_at (corner corners 0).values k) (number_at (corner corners 1).values k) (number_at (corner corners 2).values k)

-- ten quotients of sums by weight over the whole: the first of them are carried, and the others are the first corner's values
pub record AreCarriesOf (corners : List Vertex) (w : Weights) (count : ℕ) (whole : ℤ) (c : Carries) : Type 0 where
  pub carried : AreCarries whole count (sum_at corners w) c
  pub slow : (k : ℕ) → k < count → IsWithin (2 ^ 29) (number_at c.values k)
  pub others : (k : ℕ) → count ≤ k → number_at c.values k ≡ number_at (corner corners 0).values k
  pub ten : length c.values ≡ 10

-- a depth as a carry
pub record IsDepthCarry (z w divisor : ℤ) (c : LongCarry) : Type 0 where
  pub depth_carried : IsCarry divisor ((z +ℤ w) *ℤ pos 65535) c.quotient c.remainder
  pub depth_slow : IsWithin (2 ^ 29) c.quotient

-- by how much the weights grow from column to column
abbrev pub rises_of : Shape → Weights
rises_of s = record { one = pos 2 *ℤ s.one.x; two = pos 2 *ℤ s.two.x; three = pos 2 *ℤ s.three.x }

-- all weights together
abbrev pub whole_of : Weights → ℤ
whole_of w = w.one +ℤ w.two +ℤ w.three

-- the corners have one w above zero, and stand between the near plane and the far one
pub record AreBetween (corners : List Vertex) : Type 0 where
  pub some_w : pos 0 <ℤ (corner corners 0).w
  pub second_same : (corner corners 0).w ≡ (corner corners 1).w
  pub third_same : (corner corners 0).w ≡ (corner corners 2).w
  pub first_from_near : neg_ℤ (corner corners 0).w ≤ℤ (corner corners 0).z
  pub second_from_near : neg_ℤ (corner corners 0).w ≤ℤ (corner corners 1).z
  pub third_from_near : neg_ℤ (corner corners 0).w ≤ℤ (corner corners 2).z
  pub first_to_far : (corner corners 0).z ≤ℤ (corner corners 0).w
  pub second_to_far : (corner corners 1).z ≤ℤ (corner corners 0).w
  pub third_to_far : (corner corners 2).z ≤ℤ (corner corners 0).w

-- the weights together are the same everywhere
pub record IsWhole (s : Shape) (whole : ℤ) : Type 0 where
  pub some : pos 0 <ℤ whole
  pub few : whole ≤ℤ pos (2 ^ 62)
  pub everywhere : (x y : ℤ) → whole_of (weights_of s.corners s.view x y) ≡ whole

-- by how much depth and values rise from column to column
pub record AreSteps (s : Shape) (moving : ℕ) (t : Steps) : Type 0 where
  pub whole_holds : IsWhole s t.whole
  pub between : AreBetween s.corners
  pub some_divisor : pos 0 <ℤ t.divisor
  pub few_divisor : t.divisor ≤ℤ pos (2 ^ 120)
  pub divisor_holds : t.divisor ≡ pos 2 *ℤ (t.whole *ℤ (corner s.corners 0).w)
  pub value_steps : AreCarriesOf s.corners (rises_of s) moving t.whole t.values
  pub depth_step : IsDepthCarry (z_at s.corners (rises_of s)) (pos 0) t.divisor t.depth

-- what is found once a triangle: where it is level, which values are the same at the corners, and the steps where they are carried
pub record AreRates (s : Shape) (r : Rates) : Type 0 where
  pub few_moving : r.moving ≤ 10
  pub carried_holds : IsTrue r.carried → AreSteps s r.moving r.steps
  pub level_holds : IsTrue r.level → IsLevel s
  pub ten_values : HaveTenValues s.corners
  pub others_same : AreSameFrom s.corners r.moving

-- the depth is that in the column before the one with these sums
pub record IsDepthBefore (s : Shape) (depth : Option ℕ) (next : Sums) : Type 0 where
  pub x : ℤ
  pub y : ℤ
  pub sums : Sums
  pub here : AreSumsAt s x y sums
  pub there : AreSumsAt s (x +ℤ pos 1) y next
  pub same_depth : depth ≡ depth_at s.corners (sums_seen sums)

-- a place with the depth that was found there, if one was
abbrev pub spot_at : ℤ → ℤ → Option ℕ → Option Spot
spot_at x y (Some d) = Some (record { x = x; y = y; depth = d })
spot_at x y None = None

-- the pixels of the columns that are left
abbrev pub walk_seen : Walk → List Fragment
walk_seen r = pixels_at r.shape.corners r.shape.view r.y (numbers_from r.x r.left)

-- a fragment in the column that is next, with this depth and the values of the first corner
abbrev pub alike_at : Walk → ℕ → Fragment
alike_at r depth = record { x = r.x; y = r.y; depth = depth; values = (corner r.shape.corners 0).values }

-- a fragment in a column of a row, with this depth and the values of the first corner
abbrev pub alike_from : Shape → ℤ → ℤ → ℕ → Fragment
alike_from s y x depth = record { x = x; y = y; depth = depth; values = (corner s.corners 0).values }

-- where depth and values are carried, they are those of this column
pub record IsCarriedAt (r : Walk) (x : ℤ) : Type 0 where
  pub values_carried : AreCarries r.rates.steps.whole r.rates.moving (sum_at r.shape.corners (weights_of r.shape.corners r.shape.view x r.y)) r.carries
  pub others_carried : (k : ℕ) → r.rates.moving ≤ k → number_at r.carries.values k ≡ number_at (corner r.shape.corners 0).values k
  pub ten_carried : length r.carries.values ≡ 10
  pub depth_carried : IsCarry r.rates.steps.divisor
      ((z_at r.shape.corners (weights_of r.shape.corners r.shape.view x r.y) +ℤ w_at r.shape.corners (weights_of r.shape.corners r.shape.view x r.y)) *ℤ pos 65535)
      r.depth.quotient r.depth.remainder

-- the depth is that of this column, and the sums or the carries are
pub record IsReadyAt (r : Walk) (x : ℤ) : Type 0 where
  pub depth_holds : r.found ≡ depth_at r.shape.corners (weights_of r.shape.corners r.shape.view x r.y)
  pub sums_hold : r.rates.carried ≡ false → AreSumsAt r.shape x r.y r.sums
  pub carried_at : IsTrue r.rates.carried → IsCarriedAt r x

-- the weights in the column that is next
abbrev pub weights_here : Walk → Weights
weights_here r = weights_of r.shape.corners r.shape.view r.x r.y

-- the columns lie in the frame and are covered
pub record AreColumns (s : Shape) (y : ℤ) (c : Columns) : Type 0 where
  pub first_from_zero : pos 0 ≤ℤ c.x
  pub end_in_width : (c.x +ℤ pos c.left) ≤ℤ pos 256
  pub each_covered : (k : ℕ) → k < c.left → is_covered s.corners s.view (c.x +ℤ pos k) y ≡ true

-- a walk that is ready for the column after its next one, if there is one
pub record IsReadied (old new : Walk) : Type 0 where
  pub same_shape : new.shape ≡ old.shape
  pub same_rates : new.rates ≡ old.rates
  pub same_y : new.y ≡ old.y
  pub same_x : new.x ≡ old.x
  pub same_left : new.left ≡ old.left
  pub ready : 1 < old.left → IsReadyAt new (old.x +ℤ pos 1)

-- the columns lie in the frame and are covered, and the sums and the depth are those of the next one
pub record IsWalk (r : Walk) : Type 0 where
  pub shape_holds : IsShape r.shape
  pub in_height : IsFromTo (pos 0) (pos 256) r.y
  pub from_zero : pos 0 ≤ℤ r.x
  pub in_width : (r.x +ℤ pos r.left) ≤ℤ pos 256
  pub rates_hold : AreRates r.shape r.rates
  pub next_holds : 0 < r.left → IsReadyAt r r.x
  pub all_covered : (k : ℕ) → k < r.left → is_covered r.shape.corners r.shape.view (r.x +ℤ pos k) r.y ≡ true

-- a corner stands over the lower side of row n, or on it, if it is before the eye
abbrev pub IsOver : Point → ℤ → Type 0
IsOver p n = (n *ℤ p.d) ≤ℤ p.y

-- and under it, or on it
abbrev pub IsUnder : Point → ℤ → Type 0
IsUnder p n = p.y ≤ℤ (n *ℤ p.d)

-- three corners stand over the lower side of row n, or on it
pub record AreOver (one two three : Point) (n : ℤ) : Type 0 where
  pub first_over : IsOver one n
  pub second_over : IsOver two n
  pub third_over : IsOver three n

-- and under it, or on it
pub record AreUnder (one two three : Point) (n : ℤ) : Type 0 where
  pub first_under : IsUnder one n
  pub second_under : IsUnder two n
  pub third_under : IsUnder three n
