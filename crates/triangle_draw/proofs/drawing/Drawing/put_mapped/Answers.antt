use Rattle.std.proofs.Common.{List, All, sym, ap, subst, ◌∙◌}
use Rattle.triangle_raster.specs.declared.fragment.Fragment.{Fragment}
use Rattle.fragment_ops.specs.Frame.{frame_changed}
use Rattle.fragment_ops.specs.State.{AreWithinOne}
use Rattle.triangle_draw.specs.Fragments.{cell_after_all}
use Rattle.triangle_draw.proofs.Putting.{at_last, first_all, next_put, rest_all}
use Rattle.triangle_draw.proofs.drawing.Drawing.put_mapped.Goals as goal

pub put_visible-requires-clause-shades : goal.put_visible-requires-clause-shades
put_visible-requires-clause-shades g c =
    first_all (λ (f : Fragment). AreWithinOne f.values) c.loop-fragment.left c.in-Some.fragment c.loop-fragment.invariant.shades (sym c.next.ensures.next ∙ c.in-Some.is)

pub loop-fragment-preserved : goal.loop-fragment-preserved
loop-fragment-preserved g c =
    let shaded = λ (f : Fragment). AreWithinOne f.values in
    record {
      same_end =
          ap (λ (list : List Fragment). frame_changed (cell_after_all c.args.self.now list) c.put_visible.new.frame) c.next.ensures.left
          ∙ next_put c.args.self.now c.loop-fragment.left c.in-Some.fragment c.loop-fragment.frame c.put_visible.new.frame (sym c.next.ensures.next ∙ c.in-Some.is) c.put_visible.ensures
          ∙ c.loop-fragment.invariant.same_end;
      shades = subst (All shaded) (sym c.next.ensures.left) (rest_all shaded c.loop-fragment.left c.loop-fragment.invariant.shades);
    }

pub returns : goal.returns
returns g c = at_last c.args.self.now c.loop-fragment.left c.loop-fragment.frame (sym c.next.ensures.next ∙ c.in_default.is) ∙ c.loop-fragment.invariant.same_end
