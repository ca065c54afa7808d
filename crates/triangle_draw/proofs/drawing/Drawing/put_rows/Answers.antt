use Rattle.std.proofs.Common.{◌≡◌, ℤ, pos, ◌+ℤ◌, ◌≤ℤ◌, ◌<ℤ◌, List, All, None, sym, ap, subst, ◌∙◌, w32, to_z, of_z, arith}
use Rattle.std.proofs.lemmas.Int.{ints}
use Rattle.triangle_raster.specs.declared.fragment.Fragment.{Fragment}
use Rattle.triangle_raster.specs.Pixel.{pixel_of}
use Rattle.triangle_raster.specs.Row.{Triangle, fragments_of}
use Rattle.fragment_ops.specs.Frame.{frame_changed}
use Rattle.fragment_ops.specs.State.{AreWithinOne}
use Rattle.triangle_draw.specs.Fragments.{below_row, cell_after_all}
use Rattle.triangle_draw.specs.Triangle.{cell_after_triangle}
use Rattle.triangle_draw.proofs.RowChanges.{rows_all, rows_more, rows_none}
use Rattle.triangle_draw.proofs.Shades.{shades_of_row}
use Rattle.triangle_draw.proofs.drawing.Drawing.put_rows.Goals as goal

pub put_row-requires-clause-shades : goal.put_row-requires-clause-shades
put_row-requires-clause-shades c =
    let y = to_z w32 c.loop-y.y-bits in
    let made = ap (λ (t : Triangle). fragments_of t y) c.requires.setup in
    subst (All (λ (f : Fragment). AreWithinOne f.values)) (sym made) (shades_of_row c.args.corners.now c.args.self.now.view c.args.area y c.requires.shades)

pub loop-y-init : goal.loop-y-init
loop-y-init c =
    let change = cell_after_triangle c.args.self.now c.args.corners.now in
    let bottom = c.rows-extent.result.bottom in
    let from : pos 0 ≤ℤ bottom = c.rows-extent.ensures.bounds.0.0 in
    let to : bottom ≤ℤ pos 256 = c.rows-extent.ensures.bounds.0.1 in
    let same : bottom ≡ to_z w32 (of_z w32 bottom) = omega (arith, ints) in
    let under = subst (λ (t : Triangle). (x y : ℤ) → t.area.bottom ≤ℤ y → y <ℤ bottom → pixel_of t.corners t.view x y ≡ None) c.requires.setup c.rows-extent.ensures.under in
    rows_none c.args.self.now c.args.corners.now c.args.frame.now c.requires.whole c.args.area c.requires.area bottom under
    ∙ ap (λ (z : ℤ). frame_changed (below_row z change) c.args.frame.now) same

pub loop-y-preserved : goal.loop-y-preserved
loop-y-preserved c =
    let change = cell_after_triangle c.args.self.now c.args.corners.now in
    let y = to_z w32 c.loop-y.y-bits in
    let top = c.rows-extent.result.top in
    let from : pos 0 ≤ℤ top = c.rows-extent.ensures.bounds.1.0 in
    let to : top ≤ℤ pos 256 = c.rows-extent.ensures.bounds.1.1 in
    let under : y <ℤ to_z w32 (of_z w32 top) = omega (arith, ints) in
    let next : (y +ℤ pos 1) ≡ to_z w32 (of_z w32 (y +ℤ pos 1)) = omega (arith, ints) in
    let made = ap (λ (t : Triangle). fragments_of t y) c.requires.setup in
    rows_more c.args.self.now c.args.corners.now c.args.frame.now c.requires.whole c.args.area c.requires.area y c.loop-y.frame c.put_row.new.frame c.requires.kept c.loop-y.invariant
    (c.put_row.ensures ∙ ap (λ (fs : List Fragment). frame_changed (cell_after_all c.args.self.now fs) c.loop-y.frame) made)
    ∙ ap (λ (z : ℤ). frame_changed (below_row z change) c.args.frame.now) next

pub returns : goal.returns
returns c =
    let y = to_z w32 c.loop-y.y-bits in
    let top = c.rows-extent.result.top in
    let from : pos 0 ≤ℤ top = c.rows-extent.ensures.bounds.1.0 in
    let to : top ≤ℤ pos 256 = c.rows-extent.ensures.bounds.1.1 in
    let past : top ≤ℤ y = omega (arith, ints) in
    let over = subst (λ (t : Triangle). (x row : ℤ) → top ≤ℤ row → row <ℤ t.area.top → pixel_of t.corners t.view x row ≡ None) c.requires.setup c.rows-extent.ensures.over in
    rows_all c.args.self.now c.args.corners.now c.args.frame.now c.requires.whole c.args.area c.requires.area y top c.loop-y.frame past over c.loop-y.invariant
