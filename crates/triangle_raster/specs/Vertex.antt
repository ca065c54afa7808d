-- Corners in the window, the conditions on what is drawn, and the determinant of three vectors.
use Rattle.std.specs.Prelude.{ℕ, ◌^◌, ◌≤◌, ℤ, pos, ◌+ℤ◌, ◌-ℤ◌, ◌*ℤ◌, neg_ℤ, ◌≤ℤ◌, unsigned_abs, List, [], slice_index_or, All}
use Rattle.triangle_raster.specs.declared.vertex.Vertex.{Vertex}
use Rattle.triangle_raster.specs.declared.vertex.View.{View}
use Rattle.triangle_raster.specs.declared.vertex.Area.{Area}

-- z lies from -n to n; own
pub record IsWithin (n : ℕ) (z : ℤ) : Type 0 where
  pub within : unsigned_abs z ≤ n

-- z lies from a to b; own
abbrev pub IsFromTo : ℤ → ℤ → ℤ → Type 0
IsFromTo a b z = (a ≤ℤ z) × (z ≤ℤ b)

-- each number of the corner is within 2^27 of zero; own
pub record IsCorner (v : Vertex) : Type 0 where
  pub across : IsWithin (2 ^ 27) v.x
  pub upward : IsWithin (2 ^ 27) v.y
  pub deep : IsWithin (2 ^ 27) v.z
  pub divisor : IsWithin (2 ^ 27) v.w
  pub carried : All (IsWithin (2 ^ 27)) v.values

-- the viewport has sides of 0 to 512, and its corner is within 1024 of zero; own
pub record IsView (v : View) : Type 0 where
  pub across : IsWithin 1024 v.x
  pub upward : IsWithin 1024 v.y
  pub wide : IsFromTo (pos 0) (pos 512) v.width
  pub high : IsFromTo (pos 0) (pos 512) v.height

-- the area lies in 0 to 256 both ways; own
pub record IsArea (a : Area) : Type 0 where
  pub from_left : IsFromTo (pos 0) (pos 256) a.left
  pub from_bottom : IsFromTo (pos 0) (pos 256) a.bottom
  pub to_right : IsFromTo (pos 0) (pos 256) a.right
  pub to_top : IsFromTo (pos 0) (pos 256) a.top

-- three numbers: a point of the window, which is (x / d, y / d) in pixels, or the coefficients of an edge; own
pub record Vector : Type 0 where
  pub x : ℤ
  pub y : ℤ
  pub d : ℤ

-- the point of the window at which a corner stands, not yet divided by w; OpenGL ES 1.1.12 section 2.10.1, the arithmetic own
unfoldable pub place_of : Vertex → View → Vector
place_of v view = record {
  x = v.x *ℤ view.width +ℤ v.w *ℤ (view.width +ℤ pos 2 *ℤ view.x);
  y = v.y *ℤ view.height +ℤ v.w *ℤ (view.height +ℤ pos 2 *ℤ view.y);
  d = pos 2 *ℤ v.w;
}

-- the centre of the pixel in column x and row y; OpenGL ES 1.1.12 section 3.5.1
unfoldable pub centre_of : ℤ → ℤ → Vector
centre_of x y = record { x = pos 2 *ℤ x +ℤ pos 1; y = pos 2 *ℤ y +ℤ pos 1; d = pos 2 }

-- the edge from a to b: the coefficients of p in the determinant of p, a and b; own
unfoldable pub edge_through : Vector → Vector → Vector
edge_through a b = record {
  x = a.y *ℤ b.d -ℤ a.d *ℤ b.y;
  y = a.d *ℤ b.x -ℤ a.x *ℤ b.d;
  d = a.x *ℤ b.y -ℤ a.y *ℤ b.x;
}

-- the value of an edge at p: zero on it, above zero on its left and below zero on its right, for points before the eye; own
unfoldable pub value_at : Vector → Vector → ℤ
value_at edge p = edge.x *ℤ p.x +ℤ edge.y *ℤ p.y +ℤ edge.d *ℤ p.d

-- the determinant of three vectors
abbrev pub determinant : Vector → Vector → Vector → ℤ
determinant p a b = value_at (edge_through a b) p

-- the same edge, run the other way; own
unfoldable pub turned : Vector → Vector
turned edge = record { x = neg_ℤ edge.x; y = neg_ℤ edge.y; d = neg_ℤ edge.d }

-- what a read past the last place gives
abbrev pub no_corner : Vertex
no_corner = record { x = pos 0; y = pos 0; z = pos 0; w = pos 0; values = [] }

-- the corner at place k of a triangle
abbrev pub corner : List Vertex → ℕ → Vertex
corner corners k = slice_index_or corners k no_corner

-- each of the three corners keeps its bounds; own
pub record AreCorners (corners : List Vertex) : Type 0 where
  pub one : IsCorner (corner corners 0)
  pub two : IsCorner (corner corners 1)
  pub three : IsCorner (corner corners 2)
