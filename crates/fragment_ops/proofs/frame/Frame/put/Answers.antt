use Rattle.std.proofs.Common.{◌≡◌, ℤ, get_or, set, Some, None, sym, ap, ◌∙◌, w32, to_z, of_z}
use Rattle.std.proofs.lemmas.Int.{to_z-of_z}
use Rattle.fragment_ops.specs.declared.cell.Cell.{Cell}
use Rattle.fragment_ops.specs.declared.place.Place.{Place}
use Rattle.fragment_ops.specs.Cell.{Fragment, cell_after_put}
use Rattle.fragment_ops.specs.Frame.{FrameView, cell_at, place_in}
use Rattle.fragment_ops.specs.Over.{cell_laid_over}
use Rattle.fragment_ops.proofs.Laying.{cell_after_put-laid_over, cell_at-read}
use Rattle.fragment_ops.proofs.Places.{frame_changed-outside, frame_changed-put, with_cells}
use Rattle.fragment_ops.proofs.frame.Frame.put.Goals as goal

pub returns-in_default : goal.returns-in_default
returns-in_default c =
    let frame = c.args.self.now in
    let fragment : Fragment = record { depth = c.args.depth; colour = c.args.colour } in
    let change : Place → Cell → Cell = λ place. cell_after_put place c.args.state.now fragment in
    let same_x = to_z-of_z w32 c.args.x c.ranges.x in
    let same_y = to_z-of_z w32 c.args.y c.ranges.y in
    let none : place_in frame c.args.x c.args.y ≡ None =
    ap (λ (z : ℤ). place_in frame z c.args.y) (sym same_x) ∙ ap (place_in frame (to_z w32 (of_z w32 c.args.x))) (sym same_y) ∙ sym c.place.ensures.place ∙ c.in_default.is in
    frame_changed-outside change frame c.args.x c.args.y c.place.ensures.whole none

pub returns-then-lays_over : goal.returns-then-lays_over
returns-then-lays_over c =
    let frame = c.args.self.now in
    let fragment : Fragment = record { depth = c.args.depth; colour = c.args.colour } in
    let change : Place → Cell → Cell = λ place. cell_after_put place c.args.state.now fragment in
    let place = c.in-Some.place in
    let at = c.before-at.result in
    let old = c.index_mut.result.now in
    let new = c.lay_over.new.cell in
    let same_x = to_z-of_z w32 c.args.x c.ranges.x in
    let same_y = to_z-of_z w32 c.args.y c.ranges.y in
    let there : place_in frame c.args.x c.args.y ≡ Some place =
    ap (λ (z : ℤ). place_in frame z c.args.y) (sym same_x) ∙ ap (place_in frame (to_z w32 (of_z w32 c.args.x))) (sym same_y) ∙ sym c.place.ensures.place ∙ c.in-Some.is in
    let read : old ≡ cell_at frame place =
    cell_at-read frame place at old c.before-at.ensures.before c.before-at.ensures.inside (c.index_mut.ensures.value ∙ ap (λ (f : FrameView). get_or f.cells at old) c.self.view_is) in
    let written : FrameView → FrameView = λ f. with_cells f (set f.cells at new) in
    ap written c.self.view_is
    ∙ frame_changed-put change frame c.args.x c.args.y place at new c.place.ensures.whole there c.before-at.ensures.before
    (c.lay_over.ensures ∙ ap (cell_laid_over fragment) read ∙ sym (cell_after_put-laid_over c.args.state.now place fragment (cell_at frame place) (c.lays_over.ensures c.if-lays_over.true)))

pub returns-else-lays_over : goal.returns-else-lays_over
returns-else-lays_over c =
    let frame = c.args.self.now in
    let fragment : Fragment = record { depth = c.args.depth; colour = c.args.colour } in
    let change : Place → Cell → Cell = λ place. cell_after_put place c.args.state.now fragment in
    let place = c.in-Some.place in
    let at = c.before-at.result in
    let new = c.put.result in
    let same_x = to_z-of_z w32 c.args.x c.ranges.x in
    let same_y = to_z-of_z w32 c.args.y c.ranges.y in
    let there : place_in frame c.args.x c.args.y ≡ Some place =
    ap (λ (z : ℤ). place_in frame z c.args.y) (sym same_x) ∙ ap (place_in frame (to_z w32 (of_z w32 c.args.x))) (sym same_y) ∙ sym c.place.ensures.place ∙ c.in-Some.is in
    let written : FrameView → FrameView = λ f. with_cells f (set f.cells at new) in
    ap written c.self.view_is
    ∙ frame_changed-put change frame c.args.x c.args.y place at new c.place.ensures.whole there c.before-at.ensures.before (c.put.ensures ∙ ap (change place) c.cell-old.ensures)
