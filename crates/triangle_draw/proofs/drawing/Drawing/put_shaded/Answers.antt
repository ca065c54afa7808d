use Rattle.std.proofs.Common.{rules, w32, List, All, sym, ap, subst, ◌∙◌}
use Rattle.std.proofs.lemmas.Int.{to_z-of_z}
use Rattle.std.specs.Prelude.{FitsSigned}
use Rattle.triangle_raster.specs.declared.fragment.Fragment.{Fragment}
use Rattle.fragment_ops.specs.Frame.{frame_changed}
use Rattle.fragment_ops.specs.State.{AreWithinOne}
use Rattle.triangle_draw.specs.Fragments.{cell_after_all}
use Rattle.triangle_draw.proofs.Putting.{at_last, first_all, next_put, one_is_put, rest_all}
use Rattle.triangle_draw.proofs.Texturing.{plain_colour}
use Rattle.triangle_draw.proofs.drawing.Drawing.put_shaded.Goals as goal

pub colour_of-colour-requires : goal.colour_of-colour-requires
colour_of-colour-requires c =
    record { shades = first_all (λ (f : Fragment). AreWithinOne f.values) c.loop-fragment.left c.in-Some.fragment c.loop-fragment.invariant.shades (sym c.next.ensures.next ∙ c.in-Some.is) }

pub loop-fragment-preserved : goal.loop-fragment-preserved
loop-fragment-preserved c =
    let shaded = λ (f : Fragment). AreWithinOne f.values in
    let f = c.in-Some.fragment in
    let in_x : FitsSigned w32 f.x = search rules in
    let in_y : FitsSigned w32 f.y = search rules in
    record {
      same_end =
          ap (λ (list : List Fragment). frame_changed (cell_after_all c.args.self.now list) c.put.new.self) c.next.ensures.left
          ∙ next_put c.args.self.now c.loop-fragment.left f c.loop-fragment.frame c.put.new.self (sym c.next.ensures.next ∙ c.in-Some.is)
          (one_is_put c.args.self.now f _ _ c.depth_between-depth.result c.colour_of-colour.result c.loop-fragment.frame c.put.new.self
          (to_z-of_z w32 f.x in_x) (to_z-of_z w32 f.y in_y) c.depth_between-depth.ensures (plain_colour c.args.self.now f c.colour_of-colour.result c.requires.plain c.colour_of-colour.ensures) c.put.ensures)
          ∙ c.loop-fragment.invariant.same_end;
      shades = subst (All shaded) (sym c.next.ensures.left) (rest_all shaded c.loop-fragment.left c.loop-fragment.invariant.shades);
    }

pub returns : goal.returns
returns c = at_last c.args.self.now c.loop-fragment.left c.loop-fragment.frame (sym c.next.ensures.next ∙ c.in_default.is) ∙ c.loop-fragment.invariant.same_end
