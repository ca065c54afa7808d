-- What every fragment keeps to: its place, and the range of its values.
use Rattle.std.specs.Prelude.{ℕ, ◌<◌, ℤ, pos, ◌≤ℤ◌, ◌<ℤ◌, List, length, get_or, All}
use Rattle.triangle_raster.specs.declared.vertex.Vertex.{Vertex}
use Rattle.triangle_raster.specs.declared.vertex.Area.{Area}
use Rattle.triangle_raster.specs.declared.fragment.Fragment.{Fragment}
use Rattle.triangle_raster.specs.Vertex.{IsFromTo, corner}
use Rattle.triangle_raster.specs.Row.{Triangle, fragments_of}

-- the fragment's column and row are of the area; own
pub record LiesInArea (area : Area) (f : Fragment) : Type 0 where
  pub from_left : area.left ≤ℤ f.x
  pub before_right : f.x <ℤ area.right
  pub from_bottom : area.bottom ≤ℤ f.y
  pub before_top : f.y <ℤ area.top

-- v lies in every range that has a, b and c; own
abbrev pub LiesAmong : ℤ → ℤ → ℤ → ℤ → Type 0
LiesAmong a b c v = (low high : ℤ) → IsFromTo low high a → IsFromTo low high b → IsFromTo low high c → IsFromTo low high v

-- the number at place k of a list, zero past its end
abbrev pub number_at : List ℤ → ℕ → ℤ
number_at numbers k = get_or numbers k (pos 0)

-- each value of the fragment lies among those of the three corners; own
abbrev pub HasValuesAmong : List Vertex → Fragment → Type 0
HasValuesAmong corners f =
    (k : ℕ) → k < length f.values →
    LiesAmong (number_at (corner corners 0).values k) (number_at (corner corners 1).values k) (number_at (corner corners 2).values k) (number_at f.values k)

-- every fragment of row y lies in the area; own
abbrev pub FragmentsLieInArea : Triangle → ℤ → Type 0
FragmentsLieInArea t y = All (LiesInArea t.area) (fragments_of t y)

-- every value of every fragment of row y lies among those of the corners; own
abbrev pub ValuesLieAmongCorners : Triangle → ℤ → Type 0
ValuesLieAmongCorners t y = All (HasValuesAmong t.corners) (fragments_of t y)
