-- Two triangles that stand on opposite sides of an edge, and what they cover.
use Rattle.std.specs.Prelude.{◌≡◌, ℕ, zero, suc, ◌<◌, ℤ, pos, ◌<ℤ◌, ◌⊎◌, IsTrue, List}
use Rattle.triangle_raster.specs.declared.vertex.Vertex.{Vertex}
use Rattle.triangle_raster.specs.declared.vertex.View.{View}
use Rattle.triangle_raster.specs.Vertex.{Vector, centre_of, edge_through, value_at, determinant}
use Rattle.triangle_raster.specs.Pixel.{place, edge_of, passes, is_covered}

-- the place of the corner after the one at place k, going round
abbrev pub next_place : ℕ → ℕ
next_place zero = 1
next_place (suc zero) = 2
next_place (suc (suc k)) = 0

-- the first end of the edge across from the corner at place k
abbrev pub first_end : List Vertex → View → ℕ → Vector
first_end corners view k = place corners view (next_place k)

-- the second end of the edge across from the corner at place k
abbrev pub second_end : List Vertex → View → ℕ → Vector
second_end corners view k = place corners view (next_place (next_place k))

-- one number is below zero and the other above it
abbrev pub HaveOppositeSigns : ℤ → ℤ → Type 0
HaveOppositeSigns a b = ((a <ℤ pos 0) × (pos 0 <ℤ b)) ⊎ ((pos 0 <ℤ a) × (b <ℤ pos 0))

-- the edge across from place k in one triangle has the ends of the edge across from place m in the other, in this order or the other way round
abbrev pub ShareAnEdge : List Vertex → List Vertex → View → ℕ → ℕ → Type 0
ShareAnEdge one other view k m =
    ((first_end one view k ≡ first_end other view m) × (second_end one view k ≡ second_end other view m))
    ⊎ ((first_end one view k ≡ second_end other view m) × (second_end one view k ≡ first_end other view m))

-- the triangles share this edge, and their third corners stand on opposite sides of it
pub record StandOpposite (one other : List Vertex) (view : View) (k m : ℕ) : Type 0 where
  pub shared : ShareAnEdge one other view k m
  pub apart : HaveOppositeSigns
      (determinant (first_end one view k) (second_end one view k) (place one view k))
      (determinant (first_end one view k) (second_end one view k) (place other view m))

-- the centre in column x and row y passes the tests of the edges other than the one across from place k
pub record PassesOthers (corners : List Vertex) (view : View) (k : ℕ) (x y : ℤ) : Type 0 where
  pub after : IsTrue (passes (edge_of corners view (next_place k)) (centre_of x y))
  pub before : IsTrue (passes (edge_of corners view (next_place (next_place k))) (centre_of x y))

-- the centre lies on the edge across from place k
abbrev pub LiesOnEdge : List Vertex → View → ℕ → ℤ → ℤ → Type 0
LiesOnEdge corners view k x y = value_at (edge_through (first_end corners view k) (second_end corners view k)) (centre_of x y) ≡ pos 0

-- no centre is covered by both, and one on the edge that passes the other tests in both is covered by one of them
pub record CoverOnce (one other : List Vertex) (view : View) (k m : ℕ) (x y : ℤ) : Type 0 where
  pub not_twice : IsTrue (is_covered one view x y) → ¬ (IsTrue (is_covered other view x y))
  pub not_lost :
      LiesOnEdge one view k x y → PassesOthers one view k x y → PassesOthers other view m x y →
      IsTrue (is_covered one view x y) ⊎ IsTrue (is_covered other view x y)

-- whichever edge two triangles share, where they stand on opposite sides of it they cover a centre once; OpenGL ES 1.1.12 section 3.5.1
abbrev pub SharedEdge : List Vertex → List Vertex → View → ℤ → ℤ → Type 0
SharedEdge one other view x y =
    (k m : ℕ) → k < 3 → m < 3 → StandOpposite one other view k m → CoverOnce one other view k m x y
