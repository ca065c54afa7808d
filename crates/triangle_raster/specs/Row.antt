-- The fragments of a row: the points of the row in the area at which the pixel is not none, in rising x.
use Rattle.std.specs.Prelude.{ℕ, zero, suc, ℤ, pos, negsuc, ◌+ℤ◌, ◌-ℤ◌, int_le, int_lt, ◌&&◌, List, [], ◌∷◌, Option, Some, None, if◌then◌else◌}
use Rattle.std.specs.List.{filter_map}
use Rattle.triangle_raster.specs.declared.vertex.Vertex.{Vertex}
use Rattle.triangle_raster.specs.declared.vertex.View.{View}
use Rattle.triangle_raster.specs.declared.vertex.Area.{Area}
use Rattle.triangle_raster.specs.declared.fragment.Fragment.{Fragment}
use Rattle.triangle_raster.specs.declared.fragment.Spot.{Spot}
use Rattle.triangle_raster.specs.Pixel.{pixel_of}

-- what a setup was made of: three corners, a viewport, and the area in which fragments lie; own
pub record Triangle : Type 0 where
  pub corners : List Vertex
  pub view : View
  pub area : Area

-- the triangle of these corners in this viewport and area
abbrev pub triangle_of : List Vertex → View → Area → Triangle
triangle_of corners view area = record { corners = corners; view = view; area = area }

-- count whole numbers from x on
abbrev pub numbers_from : ℤ → ℕ → List ℤ
numbers_from x zero = []
numbers_from x (suc count) = x ∷ numbers_from (x +ℤ pos 1) count

-- a number as a count: zero where it is below zero
abbrev pub count_of : ℤ → ℕ
count_of (pos n) = n
count_of (negsuc n) = 0

-- the columns of a row in the area: all of them, or none where the row is outside; own
abbrev pub columns_of : Area → ℤ → List ℤ
columns_of area y =
    if int_le area.bottom y && int_lt y area.top
    then numbers_from area.left (count_of (area.right -ℤ area.left))
    else []

-- the pixels of the points of row y at these columns, without those that are none
abbrev pub pixels_at : List Vertex → View → ℤ → List ℤ → List Fragment
pixels_at corners view y columns = filter_map (λ x. pixel_of corners view x y) columns

-- the fragments of row y, in rising x; own
abbrev pub fragments_of : Triangle → ℤ → List Fragment
fragments_of t y = pixels_at t.corners t.view y (columns_of t.area y)

-- the fragment that comes next, if one is left
abbrev pub first : List Fragment → Option Fragment
first [] = None
first (f ∷ fs) = Some f

-- the fragments after that one
abbrev pub rest : List Fragment → List Fragment
rest [] = []
rest (f ∷ fs) = fs

-- where a fragment lies, and its depth; own
abbrev pub spot_of : Fragment → Spot
spot_of f = record { x = f.x; y = f.y; depth = f.depth }

-- the spot of the fragment that comes next, if one is left
abbrev pub first_spot : List Fragment → Option Spot
first_spot [] = None
first_spot (f ∷ fs) = Some (spot_of f)

-- so many fragments in neighbouring columns that are alike, from one on; own
abbrev pub run_of : Fragment → ℕ → List Fragment
run_of f zero = []
run_of f (suc count) = f ∷ run_of (record f { x = f.x +ℤ pos 1 }) count
