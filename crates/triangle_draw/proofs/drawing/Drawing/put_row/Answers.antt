use Rattle.std.proofs.Common.{ℤ, All, rules, sym, ap, subst, ◌∙◌, w32}
use Rattle.std.proofs.lemmas.Int.{to_z-of_z}
use Rattle.std.specs.Prelude.{FitsSigned}
use Rattle.triangle_raster.specs.declared.fragment.Fragment.{Fragment}
use Rattle.triangle_raster.specs.Row.{fragments_of}
use Rattle.fragment_ops.specs.State.{AreWithinOne}
use Rattle.triangle_draw.proofs.drawing.Drawing.put_row.Goals as goal

pub put_run-requires-clause-shades : goal.put_run-requires-clause-shades
put_run-requires-clause-shades c =
    let in_y : FitsSigned w32 c.args.y = search rules in
    subst (All (λ (f : Fragment). AreWithinOne f.values)) (ap (λ (z : ℤ). fragments_of c.args.setup.now z) (sym (to_z-of_z w32 c.args.y in_y)) ∙ c.in-Some.ensures) c.requires.shades

pub put_apart-requires-clause-shades : goal.put_apart-requires-clause-shades
put_apart-requires-clause-shades c =
    let in_y : FitsSigned w32 c.args.y = search rules in
    subst (All (λ (f : Fragment). AreWithinOne f.values)) (ap (λ (z : ℤ). fragments_of c.args.setup.now z) (sym (to_z-of_z w32 c.args.y in_y)) ∙ sym c.row.ensures) c.requires.shades
