-- The area of a frame in which a draw may leave fragments, for private clauses.
use Rattle.std.specs.Prelude.{◌≡◌, ℕ, ◌<◌, pos, int_le, int_lt, Bool, ◌&&◌}
use Rattle.triangle_raster.specs.declared.vertex.Area.{Area}
use Rattle.triangle_raster.specs.Vertex.{IsArea}
use Rattle.fragment_ops.specs.declared.place.Place.{Place}
use Rattle.fragment_ops.specs.Cell.{is_within, passes_scissor}
use Rattle.triangle_draw.specs.declared.drawing.Drawing.{Drawing}
use Rattle.triangle_draw.specs.Triangle.{rectangle_of}

-- a place lies in an area; own
unfoldable pub is_in_area : Area → Place → Bool
is_in_area area place =
    (int_le area.left (pos place.column) && int_lt (pos place.column) area.right)
    && (int_le area.bottom (pos place.row) && int_lt (pos place.row) area.top)

-- the place in this column and this row, in pixels from the lower left corner; own
abbrev pub placed : ℕ → ℕ → Place
placed column row = record { column = column; row = row }

-- an area has those places of a frame of these sides that lie in the viewport and pass the scissor test; section 4.1.2
pub record IsAreaOf (drawing : Drawing) (width height : ℕ) (area : Area) : Type 0 where
  pub bounds : IsArea area
  pub places : (column row : ℕ) → column < width → row < height
      → is_in_area area (placed column row) ≡ (is_within (rectangle_of drawing.view) (placed column row) && passes_scissor drawing.fragments (placed column row))
