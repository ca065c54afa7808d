use Rattle.std.proofs.Common.{List, All, sym, ap, subst, ◌∙◌}
use Rattle.triangle_raster.specs.declared.fragment.Fragment.{Fragment}
use Rattle.fragment_ops.specs.Frame.{frame_changed}
use Rattle.fragment_ops.specs.State.{AreWithinOne}
use Rattle.triangle_draw.specs.Fragments.{cell_after_all}
use Rattle.triangle_draw.proofs.drawing.Drawing.put_plain.Goals as goal

pub put_shaded-requires-clause-shades : goal.put_shaded-requires-clause-shades
put_shaded-requires-clause-shades c = subst (All (λ (f : Fragment). AreWithinOne f.values)) (sym c.in-Some.ensures) c.requires.shades

pub returns-in-Some : goal.returns-in-Some
returns-in-Some c = c.put_shaded.ensures ∙ ap (λ (list : List Fragment). frame_changed (cell_after_all c.args.self.now list) c.args.frame.now) c.in-Some.ensures
