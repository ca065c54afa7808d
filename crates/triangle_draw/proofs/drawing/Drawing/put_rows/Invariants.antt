use Rattle.std.proofs.Common.{◌≡◌}
use Rattle.fragment_ops.specs.Frame.{frame_changed}
use Rattle.triangle_draw.specs.Fragments.{below_row}
use Rattle.triangle_draw.specs.Triangle.{cell_after_triangle}
use Rattle.triangle_draw.proofs.drawing.Drawing.put_rows.Given as goal

-- the rows so far
abbrev pub invariant-loop-y : goal.invariant-loop-y
invariant-loop-y l = l.frame ≡ frame_changed (below_row l.y (cell_after_triangle l.fn.self l.fn.corners)) l.fn.frame
