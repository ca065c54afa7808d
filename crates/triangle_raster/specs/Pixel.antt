-- The pixel of a triangle at one point, by the determinants at its centre. No sum is carried from pixel to pixel.
use Rattle.std.specs.Prelude.{ℕ, zero, suc, ℤ, pos, negsuc, ◌+ℤ◌, ◌*ℤ◌, neg_ℤ, int_lt, int_le, unsigned_abs, Bool, true, false, ◌&&◌, List, [], ◌∷◌, Option, Some, None, if◌then◌else◌}
use Rattle.std.specs.Int.{int_div_euclid}
use Rattle.triangle_raster.specs.declared.vertex.Vertex.{Vertex}
use Rattle.triangle_raster.specs.declared.vertex.View.{View}
use Rattle.triangle_raster.specs.declared.fragment.Fragment.{Fragment}
use Rattle.triangle_raster.specs.Vertex.{Vector, place_of, centre_of, edge_through, value_at, determinant, turned, corner}

-- where the corner at place k stands in the window
abbrev pub place : List Vertex → View → ℕ → Vector
place corners view k = place_of (corner corners k) view

-- the determinant of the corners: zero where they stand on a line, positive where they run counter-clockwise; OpenGL ES 1.1.12 section 3.5.1
unfoldable pub delta_of : List Vertex → View → ℤ
delta_of corners view = determinant (place corners view 0) (place corners view 1) (place corners view 2)

-- an edge, turned where delta is negative, so that the triangle lies on its left; own
unfoldable pub inward : ℤ → Vector → Vector
inward delta edge = if int_lt delta (pos 0) then turned edge else edge

-- the edge across from the corner at place k
unfoldable pub edge_of : List Vertex → View → ℕ → Vector
edge_of corners view zero = inward (delta_of corners view) (edge_through (place corners view 1) (place corners view 2))
edge_of corners view (suc zero) = inward (delta_of corners view) (edge_through (place corners view 2) (place corners view 0))
edge_of corners view (suc (suc k)) = inward (delta_of corners view) (edge_through (place corners view 0) (place corners view 1))

-- z is above zero, or it is zero and the next test passes
abbrev pub above_or : ℤ → Bool → Bool
above_or (pos zero) next = next
above_or (pos (suc n)) next = true
above_or (negsuc n) next = false

-- p passes the test of an edge: its value there is above zero; or it is zero, and the edge's first coefficient is above zero; or that
-- is zero too, and the second is above zero; own (OpenGL ES 1.1.12 section 3.5.1 asks that one of two polygons takes a centre on their edge)
unfoldable pub passes : Vector → Vector → Bool
passes edge p = above_or (value_at edge p) (above_or edge.x (above_or edge.y false))

-- the triangle covers the centre in column x and row y: it passes the tests of the three edges; OpenGL ES 1.1.12 section 3.5.1
unfoldable pub is_covered : List Vertex → View → ℤ → ℤ → Bool
is_covered corners view x y =
    passes (edge_of corners view 0) (centre_of x y)
    && (passes (edge_of corners view 1) (centre_of x y) && passes (edge_of corners view 2) (centre_of x y))

-- how much each corner weighs
pub record Weights : Type 0 where
  pub one : ℤ
  pub two : ℤ
  pub three : ℤ

-- the weights at a centre: of each corner the value of the edge across from it; OpenGL ES 1.1.12 section 3.5.1
unfoldable pub weights_of : List Vertex → View → ℤ → ℤ → Weights
weights_of corners view x y = record {
  one = value_at (edge_of corners view 0) (centre_of x y);
  two = value_at (edge_of corners view 1) (centre_of x y);
  three = value_at (edge_of corners view 2) (centre_of x y);
}

-- the sum of three numbers, each times the weight of its corner
unfoldable pub weighted : Weights → ℤ → ℤ → ℤ → ℤ
weighted w a b c = w.one *ℤ a +ℤ w.two *ℤ b +ℤ w.three *ℤ c

-- the mean of three numbers by weight, rounded down; OpenGL ES 1.1.12 section 3.5.1, the rounding own
unfoldable pub mean : Weights → ℤ → ℤ → ℤ → ℤ
mean w a b c = int_div_euclid (weighted w a b c) (w.one +ℤ w.two +ℤ w.three)

-- the mean of each value that the corners carry
abbrev pub means : Weights → List ℤ → List ℤ → List ℤ → List ℤ
means w (a ∷ firsts) (b ∷ seconds) (c ∷ thirds) = mean w a b c ∷ means w firsts seconds thirds
means w firsts seconds thirds = []

-- the sum of the corners' z by weight
unfoldable pub z_at : List Vertex → Weights → ℤ
z_at corners w = weighted w (corner corners 0).z (corner corners 1).z (corner corners 2).z

-- the sum of the corners' w by weight
unfoldable pub w_at : List Vertex → Weights → ℤ
w_at corners w = weighted w (corner corners 0).w (corner corners 1).w (corner corners 2).w

-- the point lies before the eye, and from the near plane to the far one; OpenGL ES 1.1.12 section 2.11
unfoldable pub is_kept : ℤ → ℤ → Bool
is_kept z w = int_lt (pos 0) w && (int_le (neg_ℤ w) z && int_le z w)

-- z from -w to w as a depth of 0 to 65535, rounded down; OpenGL ES 1.1.12 section 2.10.1, before DepthRange
unfoldable pub depth_of : ℤ → ℤ → ℕ
depth_of z w = unsigned_abs (int_div_euclid ((z +ℤ w) *ℤ pos 65535) (pos 2 *ℤ w))

-- what is left at a covered point by the weights there: depth and values, or none where it is not kept
unfoldable pub kept_fragment : List Vertex → Weights → ℤ → ℤ → Option Fragment
kept_fragment corners w x y =
    if is_kept (z_at corners w) (w_at corners w)
    then Some (record {
      x = x;
      y = y;
      depth = depth_of (z_at corners w) (w_at corners w);
      values = means w (corner corners 0).values (corner corners 1).values (corner corners 2).values;
    })
    else None

-- a number is zero
abbrev pub is_zero : ℤ → Bool
is_zero (pos zero) = true
is_zero (pos (suc n)) = false
is_zero (negsuc n) = false

-- the pixel of a triangle at a point: none where the corners stand on a line, where the centre is not covered, or where it is not kept; OpenGL ES 1.1.12 section 3.5.1
unfoldable pub pixel_of : List Vertex → View → ℤ → ℤ → Option Fragment
pixel_of corners view x y =
    if is_zero (delta_of corners view) then None
    else (if is_covered corners view x y then kept_fragment corners (weights_of corners view x y) x y else None)
