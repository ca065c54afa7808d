-- That a draw is the same on memories that agree where its vertices are read; own.
use Rattle.std.specs.Prelude.{◌≡◌, ℕ, ◌<◌, true, List}
use Rattle.gl_memory.specs.Segment.{Segment}
use Rattle.fragment_ops.specs.declared.cell.Cell.{Cell}
use Rattle.fragment_ops.specs.declared.place.Place.{Place}
use Rattle.vertex_stage.specs.Vertex.{AgreeAt}
use Rattle.triangle_draw.specs.declared.drawing.Drawing.{Drawing}
use Rattle.triangle_draw.specs.Draw.{cell_after_draw}

-- where at each vertex that is drawn two draws take elements at the same place, and memories agree there, they make the same of each cell; section 2.8
abbrev pub DrawsAlike : Drawing → (ℕ → List Segment) → (ℕ → List Segment) → ℕ → (ℕ → ℕ) → (ℕ → ℕ) → ℕ → Type 0
DrawsAlike drawing m n mode at other count =
    (drawing.stage.vertex.enabled ≡ true → (number : ℕ) → number < count → (at number ≡ other number) × AgreeAt drawing.stage m n (at number))
    → (place : Place) (old : Cell) → cell_after_draw drawing m mode at count place old ≡ cell_after_draw drawing n mode other count place old
