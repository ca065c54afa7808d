use Rattle.std.proofs.Common.{List, All, sym, ap, subst, ◌∙◌}
use Rattle.triangle_raster.specs.declared.fragment.Fragment.{Fragment}
use Rattle.triangle_raster.specs.Row.{rest}
use Rattle.fragment_ops.specs.Frame.{frame_changed}
use Rattle.fragment_ops.specs.State.{AreWithinOne}
use Rattle.triangle_draw.specs.Fragments.{cell_after_all}
use Rattle.triangle_draw.proofs.Putting.{at_end, rest_all}
use Rattle.triangle_draw.proofs.drawing.Drawing.put_seen.Goals as goal

pub loop-spot-preserved : goal.loop-spot-preserved
loop-spot-preserved c =
    let shaded = λ (f : Fragment). AreWithinOne f.values in
    record {
      same_end =
          c.put_first.ensures.frame
          ∙ ap (λ (list : List Fragment). frame_changed (cell_after_all c.args.self.now list) c.loop-spot.frame) c.look.ensures.same
          ∙ c.loop-spot.invariant.same_end;
      shades = subst (All shaded) (sym (c.put_first.ensures.row ∙ ap (λ (list : List Fragment). rest list) c.look.ensures.same)) (rest_all shaded c.loop-spot.left c.loop-spot.invariant.shades);
    }

pub returns : goal.returns
returns c = at_end c.args.self.now c.loop-spot.left c.loop-spot.frame (sym c.look.ensures.next ∙ c.in_default.is) ∙ c.loop-spot.invariant.same_end
