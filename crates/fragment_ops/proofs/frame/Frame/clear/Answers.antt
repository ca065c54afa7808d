use Rattle.std.proofs.Common.{◌≡◌, List, length, ap, ◌∙◌, arith}
use Rattle.std.proofs.lemmas.List.{with_items_is}
use Rattle.fragment_ops.specs.declared.cell.Cell.{Cell}
use Rattle.fragment_ops.specs.declared.place.Place.{Place}
use Rattle.fragment_ops.specs.Cell.{cell_after_clear, cell_cleared}
use Rattle.fragment_ops.specs.Frame.{FrameView, changed_from, frame_changed}
use Rattle.fragment_ops.specs.Rows.{in_area}
use Rattle.fragment_ops.proofs.Places.{frame_changed-cleared, with_cells}
use Rattle.fragment_ops.proofs.frame.Frame.clear.Goals as goal

pub returns : goal.returns
returns c =
    let state = c.args.state.now in
    let seen : FrameView = record { width = c.self.inside.width; height = c.self.inside.height; cells = c.self.inside.cells.items } in
    let area = c.scissored-area.result in
    let change : Place → Cell → Cell = λ place. cell_after_clear place state c.args.colour c.args.depth in
    let long : length c.rows.new.cells ≡ c.self.inside.cells.len =
    omega (arith, ap (λ (l : List Cell). length l) c.deref_mut.ensures.value, c.self.inside.cells.ok.0, c.rows.auto.cells) in
    ap (with_cells seen) (
    with_items_is c.self.inside.cells c.rows.new.cells long ∙ c.rows.ensures ∙ ap (λ (l : List Cell). changed_from (in_area area (cell_cleared state c.args.colour c.args.depth) c.self.inside.width) 0 l) c.deref_mut.ensures.value
    )
    ∙ frame_changed-cleared state c.args.colour c.args.depth seen area c.self.invariant c.scissored-area.ensures.places
    ∙ ap (frame_changed change) c.self.view_is
