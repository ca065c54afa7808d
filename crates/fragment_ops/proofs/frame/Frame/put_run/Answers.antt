use Rattle.std.proofs.Common.{◌≡◌, ℤ, List, length, ap, ◌∙◌, arith, w32, to_z, of_z}
use Rattle.std.proofs.lemmas.Int.{to_z-of_z}
use Rattle.std.proofs.lemmas.List.{with_items_is}
use Rattle.fragment_ops.specs.declared.cell.Cell.{Cell}
use Rattle.fragment_ops.specs.declared.place.Place.{Place}
use Rattle.fragment_ops.specs.Cell.{Fragment, cell_after_put}
use Rattle.fragment_ops.specs.Frame.{FrameView, changed_from, frame_changed, only_among}
use Rattle.fragment_ops.specs.Rows.{cell_tested, in_area}
use Rattle.fragment_ops.proofs.Places.{frame_changed-run, with_cells}
use Rattle.fragment_ops.proofs.frame.Frame.put_run.Goals as goal

pub returns : goal.returns
returns c =
    let state = c.args.state.now in
    let seen : FrameView = record { width = c.self.inside.width; height = c.self.inside.height; cells = c.self.inside.cells.items } in
    let area = c.of_run-area.result in
    let fragment : Fragment = record { depth = c.args.depth; colour = c.args.colour } in
    let put : Place → Cell → Cell = λ place. cell_after_put place state fragment in
    let long : length c.put_rows.new.cells ≡ c.self.inside.cells.len =
    omega (arith, ap (λ (l : List Cell). length l) c.deref_mut.ensures.value, c.self.inside.cells.ok.0, c.put_rows.auto.cells) in
    ap (with_cells seen) (
    with_items_is c.self.inside.cells c.put_rows.new.cells long ∙ c.put_rows.ensures
    ∙ ap (λ (l : List Cell). changed_from (in_area area (cell_tested state fragment) c.self.inside.width) 0 l) c.deref_mut.ensures.value
    )
    ∙ frame_changed-run state fragment seen area _ _ _ c.self.invariant c.of_run-area.ensures.places
    ∙ ap (λ (z : ℤ). frame_changed (only_among z (to_z w32 (of_z w32 c.args.y)) c.args.count put) seen) (to_z-of_z w32 c.args.x c.ranges.x)
    ∙ ap (λ (z : ℤ). frame_changed (only_among c.args.x z c.args.count put) seen) (to_z-of_z w32 c.args.y c.ranges.y)
    ∙ ap (frame_changed (only_among c.args.x c.args.y c.args.count put)) c.self.view_is
