-- What a draw goes by: vertices, the viewport, the depths of its planes, which faces are culled, and what becomes of fragments. No triangle stands here.
use Rattle.std.specs.Prelude.{ℤ, pos, ◌==◌, int_lt, ℕ, Bool, true, not, ◌&&◌, if◌then◌else◌}
use Rattle.triangle_raster.specs.Vertex.{IsView}
use Rattle.fragment_ops.specs.State.{IsFragmentState, IsWithinOne, number_at}
use Rattle.vertex_stage.specs.Vertex.{HasArrays}
use Rattle.triangle_draw.specs.declared.drawing.Drawing.{Drawing}

-- what a draw may go by: arrays of numbers that there are, a viewport within its bounds, depths of 0 to 1, and a state of fragment operations; sections 2.8, 2.10.1 and 4.1
pub record IsDrawing (drawing : Drawing) : Type 0 where
  pub arrays : HasArrays drawing.stage
  pub view : IsView drawing.view
  pub near : IsWithinOne (number_at drawing.depth_range 0)
  pub far : IsWithinOne (number_at drawing.depth_range 1)
  pub fragments : IsFragmentState drawing.fragments

-- whether a triangle shows its front, by the winding of front faces, CCW or else CW, and the determinant of its corners, which is above zero where they run counter-clockwise; section 2.12.1
unfoldable pub shows_front : ℕ → ℤ → Bool
shows_front front_face delta = if front_face == 0x901 then int_lt (pos 0) delta else int_lt delta (pos 0)

-- whether culling leaves out a triangle with such a determinant: FRONT those that show their front, BACK the others, and else all; section 3.5.1
unfoldable pub is_culled : Drawing → ℤ → Bool
is_culled drawing delta =
    drawing.culls && (
    if drawing.cull_face == 0x404 then shows_front drawing.front_face delta else (
    if drawing.cull_face == 0x405 then not (shows_front drawing.front_face delta) else true))
