-- What a draw makes of one cell: one triangle after the other. A vertex is told by its number among those drawn, and `at` gives the place of its elements in the arrays, which lie in memories by the numbers of buffers.
use Rattle.std.specs.Prelude.{ℕ, zero, suc, if◌then◌else◌, List}
use Rattle.gl_memory.specs.Segment.{Segment}
use Rattle.triangle_raster.specs.declared.vertex.Vertex.{Vertex}
use Rattle.fragment_ops.specs.declared.cell.Cell.{Cell}
use Rattle.fragment_ops.specs.declared.place.Place.{Place}
use Rattle.vertex_stage.specs.Triangles.{triangle_at, triangle_count}
use Rattle.vertex_stage.specs.Vertex.{corners_of}
use Rattle.triangle_draw.specs.declared.drawing.Drawing.{Drawing}
use Rattle.triangle_draw.specs.Triangle.{cell_after_triangle}

-- the corners of the triangle with a number, from 0, of those that a mode makes; sections 2.6.1 and 2.8
unfoldable pub corners_at : Drawing → (ℕ → List Segment) → ℕ → (ℕ → ℕ) → ℕ → List Vertex
corners_at drawing memories mode at number =
    let triangle = triangle_at mode number in
    corners_of drawing.stage memories (at triangle.first) (at triangle.second) (at triangle.third)

-- the cell at a place after so many triangles, in the order of their numbers; sections 2.6.1 and 2.1
unfoldable pub cell_after_triangles : Drawing → (ℕ → List Segment) → ℕ → (ℕ → ℕ) → ℕ → Place → Cell → Cell
cell_after_triangles drawing memories mode at zero place old = old
cell_after_triangles drawing memories mode at (suc number) place old =
    cell_after_triangle drawing (corners_at drawing memories mode at number) place (cell_after_triangles drawing memories mode at number place old)

-- the cell at a place after a draw of so many vertices: all triangles that they make, and none where the array of vertices is disabled; sections 2.6.1 and 2.8, the last own
unfoldable pub cell_after_draw : Drawing → (ℕ → List Segment) → ℕ → (ℕ → ℕ) → ℕ → Place → Cell → Cell
cell_after_draw drawing memories mode at count place old =
    if drawing.stage.vertex.enabled then cell_after_triangles drawing memories mode at (triangle_count mode count) place old else old
