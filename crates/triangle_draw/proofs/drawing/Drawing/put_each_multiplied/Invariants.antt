use Rattle.std.proofs.Common.{◌≡◌, All, length}
use Rattle.triangle_raster.specs.declared.fragment.Fragment.{Fragment}
use Rattle.fragment_ops.specs.Frame.{frame_changed}
use Rattle.fragment_ops.specs.State.{AreWithinOne}
use Rattle.triangle_draw.specs.Fragments.{cell_after_all}
use Rattle.triangle_draw.proofs.drawing.Drawing.put_each_multiplied.Given as goal

-- what those that are left make of the frame is what all made of it
abbrev pub invariant-loop-fragment : goal.invariant-loop-fragment
invariant-loop-fragment g l = record {
  same_end : frame_changed (cell_after_all l.fn.self l.left) l.frame ≡ frame_changed (cell_after_all l.fn.self l.fn.row) l.fn.frame;
  shades : All (λ (f : Fragment). AreWithinOne f.values) l.left;
}

abbrev pub decreases-loop-fragment : goal.decreases-loop-fragment
decreases-loop-fragment g l = length l.left
