use Rattle.std.proofs.Common.{rules, w32}
use Rattle.std.specs.Prelude.{FitsSigned}
use Rattle.fragment_ops.specs.State.{number_at}
use Rattle.triangle_draw.proofs.Areas.{area_scissored, area_unscissored, cut_passed}
use Rattle.triangle_draw.proofs.area.area_of.Goals as goal

pub returns-then-drawing : goal.returns-then-drawing
returns-then-drawing c =
    let view = c.args.drawing.now.view in
    let s = c.args.drawing.now.fragments.scissor in
    let columns = c.cut_by-columns in
    let rows = c.cut_by-rows in
    let left = c.cut_by-columns_left in
    let above = c.cut_by-rows_left in
    let f0 : FitsSigned w32 (number_at s 0) = search rules in
    let f1 : FitsSigned w32 (number_at s 1) = search rules in
    let f2 : FitsSigned w32 (number_at s 2) = search rules in
    let f3 : FitsSigned w32 (number_at s 3) = search rules in
    let fx : FitsSigned w32 view.x = search rules in
    let fy : FitsSigned w32 view.y = search rules in
    let fw : FitsSigned w32 view.width = search rules in
    let fh : FitsSigned w32 view.height = search rules in
    area_scissored c.args.drawing.now c.args.width c.args.height c.requires.width c.requires.height _ _ _ _ _ _ _ _
    (cut_passed _ _ view.x view.width _ _ fx fw columns.ensures.first columns.ensures.until columns.ensures.from columns.ensures.before)
    (cut_passed _ _ view.y view.height _ _ fy fh rows.ensures.first rows.ensures.until rows.ensures.from rows.ensures.before)
    c.of_side.ensures.first c.of_side.ensures.until c.of_side-2.ensures.first c.of_side-2.ensures.until
    _ _ _ _ c.if-drawing.true
    (cut_passed _ _ (number_at s 0) (number_at s 2) _ _ f0 f2 left.ensures.first left.ensures.until left.ensures.from left.ensures.before)
    (cut_passed _ _ (number_at s 1) (number_at s 3) _ _ f1 f3 above.ensures.first above.ensures.until above.ensures.from above.ensures.before)

pub returns-else-drawing : goal.returns-else-drawing
returns-else-drawing c =
    let view = c.args.drawing.now.view in
    let columns = c.cut_by-columns in
    let rows = c.cut_by-rows in
    let fx : FitsSigned w32 view.x = search rules in
    let fy : FitsSigned w32 view.y = search rules in
    let fw : FitsSigned w32 view.width = search rules in
    let fh : FitsSigned w32 view.height = search rules in
    area_unscissored c.args.drawing.now c.args.width c.args.height c.requires.width c.requires.height _ _ _ _ _ _ _ _
    (cut_passed _ _ view.x view.width _ _ fx fw columns.ensures.first columns.ensures.until columns.ensures.from columns.ensures.before)
    (cut_passed _ _ view.y view.height _ _ fy fh rows.ensures.first rows.ensures.until rows.ensures.from rows.ensures.before)
    c.of_side.ensures.first c.of_side.ensures.until c.of_side-2.ensures.first c.of_side-2.ensures.until
    c.if-drawing.false
