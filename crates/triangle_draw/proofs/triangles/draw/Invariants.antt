use Rattle.std.proofs.Common.{◌≡◌}
use Rattle.fragment_ops.specs.Frame.{frame_changed}
use Rattle.triangle_draw.specs.Draw.{cell_after_triangles}
use Rattle.triangle_draw.specs.Elements.{place_in}
use Rattle.triangle_draw.proofs.triangles.draw.Given as goal

-- the triangles so far
abbrev pub invariant-loop-number : goal.invariant-loop-number
invariant-loop-number g l = l.frame ≡ frame_changed (cell_after_triangles l.fn.drawing (g.S.Memories.each l.fn.memories) l.fn.mode (place_in l.fn.elements (g.S.Memories.each l.fn.memories)) l.number) l.fn.frame
