use Rattle.std.proofs.Common.{rules, sym, ap, ◌∙◌, List, w32}
use Rattle.std.proofs.lemmas.Int.{to_z-of_z}
use Rattle.std.specs.Prelude.{FitsSigned}
use Rattle.triangle_raster.specs.declared.fragment.Fragment.{Fragment}
use Rattle.fragment_ops.specs.Frame.{frame_changed}
use Rattle.fragment_ops.specs.State.{AreWithinOne}
use Rattle.triangle_draw.specs.Fragments.{cell_after_all}
use Rattle.triangle_draw.proofs.Putting.{first_all, first_hidden, put_first}
use Rattle.triangle_draw.proofs.drawing.Drawing.put_first.Goals as goal

pub returns-then-hides-clause-frame : goal.returns-then-hides-clause-frame
returns-then-hides-clause-frame c =
    let spot = c.args.spot in
    let in_x : FitsSigned w32 spot.x = search rules in
    let in_y : FitsSigned w32 spot.y = search rules in
    ap (λ (list : List Fragment). frame_changed (cell_after_all c.args.self.now list) c.args.frame.now) c.skip.ensures.left
    ∙ first_hidden c.args.self.now c.args.row.now spot _ _ c.depth_between-depth.result c.args.frame.now c.hides.ensures.whole c.requires.spot
    (to_z-of_z w32 spot.x in_x) (to_z-of_z w32 spot.y in_y) c.depth_between-depth.ensures (sym c.hides.ensures.hidden ∙ c.if-hides.true)

pub textured_colour-colour-requires : goal.textured_colour-colour-requires
textured_colour-colour-requires c =
    record { shades = first_all (λ (f : Fragment). AreWithinOne f.values) c.args.row.now c.in-Some.fragment c.requires.shades (sym c.next.ensures.next ∙ c.in-Some.is) }

pub returns-in-Some-clause-frame : goal.returns-in-Some-clause-frame
returns-in-Some-clause-frame c =
    let spot = c.args.spot in
    let in_x : FitsSigned w32 spot.x = search rules in
    let in_y : FitsSigned w32 spot.y = search rules in
    ap (λ (list : List Fragment). frame_changed (cell_after_all c.args.self.now list) c.put.new.self) c.next.ensures.left
    ∙ put_first c.args.self.now c.args.row.now c.in-Some.fragment spot _ _ c.depth_between-depth.result c.textured_colour-colour.result c.args.frame.now c.put.new.self c.requires.spot
    (sym c.next.ensures.next ∙ c.in-Some.is) (to_z-of_z w32 spot.x in_x) (to_z-of_z w32 spot.y in_y) c.depth_between-depth.ensures c.textured_colour-colour.ensures c.put.ensures
