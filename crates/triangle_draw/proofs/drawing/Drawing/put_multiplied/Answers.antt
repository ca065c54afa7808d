use Rattle.std.proofs.Common.{ℤ, List, rules, sym, ap, ◌∙◌, to_z, of_z, w32}
use Rattle.std.proofs.lemmas.Int.{to_z-of_z}
use Rattle.std.specs.Prelude.{FitsSigned}
use Rattle.fragment_ops.specs.declared.state.FragmentState.{FragmentState}
use Rattle.fragment_ops.specs.declared.place.Place.{Place}
use Rattle.fragment_ops.specs.Cell.{cell_after_put}
use Rattle.fragment_ops.specs.Frame.{frame_changed, only_at}
use Rattle.fragment_ops.specs.Hidden.{is_hidden}
use Rattle.triangle_draw.specs.Triangle.{depth_between}
use Rattle.triangle_draw.proofs.Putting.{one_hidden, one_is_put}
use Rattle.triangle_draw.proofs.drawing.Drawing.put_multiplied.Goals as goal

pub returns-then-hides : goal.returns-then-hides
returns-then-hides c =
    let f = c.args.fragment.now in
    let in_x : FitsSigned w32 f.x = search rules in
    let in_y : FitsSigned w32 f.y = search rules in
    one_hidden c.args.self.now f _ _ c.depth_between-depth.result c.args.frame.now c.hides.ensures.whole
    (to_z-of_z w32 f.x in_x) (to_z-of_z w32 f.y in_y) (c.depth_between-depth.ensures ∙ ap (λ (range : List ℤ). depth_between range f.depth) c.requires.range) (ap (λ (state : FragmentState). is_hidden state c.args.frame.now (to_z w32 (of_z w32 f.x)) (to_z w32 (of_z w32 f.y)) c.depth_between-depth.result) (sym c.requires.state)
    ∙ sym c.hides.ensures.hidden ∙ c.if-hides.true)

pub returns : goal.returns
returns c =
    let f = c.args.fragment.now in
    let in_x : FitsSigned w32 f.x = search rules in
    let in_y : FitsSigned w32 f.y = search rules in
    one_is_put c.args.self.now f _ _ c.depth_between-depth.result c.multiplied_colour-colour.result c.args.frame.now c.put.new.self
    (to_z-of_z w32 f.x in_x) (to_z-of_z w32 f.y in_y) (c.depth_between-depth.ensures ∙ ap (λ (range : List ℤ). depth_between range f.depth) c.requires.range) c.multiplied_colour-colour.ensures
    (c.put.ensures
    ∙ ap (λ (state : FragmentState). frame_changed (only_at (to_z w32 (of_z w32 f.x)) (to_z w32 (of_z w32 f.y)) (λ (place : Place). cell_after_put place state
    (record { depth = c.depth_between-depth.result; colour = c.multiplied_colour-colour.result }))) c.args.frame.now) c.requires.state)
