-- The rows of a triangle, one after the other, change the frame as the triangle does.
use Rattle.std.proofs.Common.{◌≡◌, ◌<◌, ℤ, pos, ◌+ℤ◌, ◌<ℤ◌, ◌≤ℤ◌, true, false, ◌&&◌, List, Option, None, refl, sym, ap, ◌∙◌, inl, inr, arith}
use Rattle.std.specs.Prelude.{int_le, int_lt}
use Rattle.std.proofs.lemmas.Bool.{and_left, and_right, cases_Bool, cond_both}
use Rattle.std.proofs.lemmas.Int.{ints}
use Rattle.triangle_raster.specs.declared.vertex.Area.{Area}
use Rattle.triangle_raster.specs.declared.vertex.Vertex.{Vertex}
use Rattle.triangle_raster.specs.declared.fragment.Fragment.{Fragment}
use Rattle.triangle_raster.specs.Pixel.{delta_of, pixel_of}
use Rattle.triangle_raster.specs.Row.{fragments_of, triangle_of}
use Rattle.fragment_ops.specs.declared.cell.Cell.{Cell}
use Rattle.fragment_ops.specs.declared.place.Place.{Place}
use Rattle.fragment_ops.specs.Cell.{is_within}
use Rattle.fragment_ops.specs.Frame.{FrameView, IsFrame, frame_changed}
use Rattle.fragment_ops.proofs.FrameChanges.{frame_changed-kept, frame_changed-same, frame_changed-twice}
use Rattle.triangle_draw.specs.declared.drawing.Drawing.{Drawing}
use Rattle.triangle_draw.specs.Area.{IsAreaOf, is_in_area}
use Rattle.triangle_draw.specs.Drawing.{is_culled}
use Rattle.triangle_draw.specs.Fragments.{IsKept, below_row, cell_after_all}
use Rattle.triangle_draw.specs.Triangle.{cell_after_fragment, cell_after_triangle, rectangle_of}
use Rattle.triangle_draw.proofs.Cells.{cell_outside, row_more}

under_area : (area : Area) (place : Place) → int_lt (pos place.row) area.bottom ≡ true → is_in_area area place ≡ false
unfolding is_in_area
under_area area place under =
    let low : int_le area.bottom (pos place.row) ≡ false = grind (arith, ints) in
    and_right (int_le area.left (pos place.column) && int_lt (pos place.column) area.right) (int_le area.bottom (pos place.row) && int_lt (pos place.row) area.top)
    (and_left (int_le area.bottom (pos place.row)) (int_lt (pos place.row) area.top) low)

over_area : (area : Area) (place : Place) → area.top ≤ℤ pos place.row → is_in_area area place ≡ false
unfolding is_in_area
over_area area place over =
    let high : int_lt (pos place.row) area.top ≡ false = grind (arith, ints) in
    and_right (int_le area.left (pos place.column) && int_lt (pos place.column) area.right) (int_le area.bottom (pos place.row) && int_lt (pos place.row) area.top)
    (and_right (int_le area.bottom (pos place.row)) (int_lt (pos place.row) area.top) high)

module _ (drawing : Drawing) (corners : List Vertex) (frame : FrameView) (whole : IsFrame frame) (area : Area) (of_frame : IsAreaOf drawing frame.width frame.height area) where
  abbrev change : Place → Cell → Cell
  change = cell_after_triangle drawing corners

  -- a place without a pixel
  pixel_none : (place : Place) (old : Cell) → pixel_of corners drawing.view (pos place.column) (pos place.row) ≡ None → change place old ≡ old
  unfolding cell_after_triangle
  pixel_none place old none =
      cond_both (is_culled drawing (delta_of corners drawing.view)) _ _ (λ (c : Cell). c ≡ old) (λ _. refl) (λ _.
      cond_both (is_within (rectangle_of drawing.view) place) _ _ (λ (c : Cell). c ≡ old)
      (λ _. ap (λ (found : Option Fragment). cell_after_fragment drawing found place old) none) (λ _. refl))

  none_below : (bottom : ℤ) → ((x y : ℤ) → area.bottom ≤ℤ y → y <ℤ bottom → pixel_of corners drawing.view x y ≡ None)
      → (place : Place) (old : Cell) → place.column < frame.width → place.row < frame.height → below_row bottom change place old ≡ old
  unfolding below_row
  none_below bottom under place old in_width in_height =
      cond_both (int_lt (pos place.row) bottom) _ _ (λ (c : Cell). c ≡ old)
      (λ before. elim (cases_Bool (int_lt (pos place.row) area.bottom)) [
        | inl out ↦ cell_outside drawing corners frame.width frame.height area of_frame place old in_width in_height (under_area area place out)
        | inr in_area ↦
            let from : area.bottom ≤ℤ pos place.row = omega (arith, ints) in
            let lower : pos place.row <ℤ bottom = omega (arith, ints) in
            pixel_none place old (under (pos place.column) (pos place.row) from lower)
      ]) (λ _. refl)

  all_below : (y top : ℤ) → top ≤ℤ y → ((x row : ℤ) → top ≤ℤ row → row <ℤ area.top → pixel_of corners drawing.view x row ≡ None)
      → (place : Place) (old : Cell) → place.column < frame.width → place.row < frame.height → below_row y change place old ≡ change place old
  unfolding below_row
  all_below y top past over place old in_width in_height =
      cond_both (int_lt (pos place.row) y) _ _ (λ (c : Cell). c ≡ change place old) (λ _. refl)
      (λ not_under. elim (cases_Bool (int_lt (pos place.row) area.top)) [
        | inl in_area ↦
            let from : top ≤ℤ pos place.row = omega (arith, ints) in
            let lower : pos place.row <ℤ area.top = omega (arith, ints) in
            sym (pixel_none place old (over (pos place.column) (pos place.row) from lower))
        | inr out ↦
            let beyond : area.top ≤ℤ pos place.row = omega (arith, ints) in
            sym (cell_outside drawing corners frame.width frame.height area of_frame place old in_width in_height (over_area area place beyond))
      ])

  -- no row yet
  pub rows_none : (bottom : ℤ) → ((x y : ℤ) → area.bottom ≤ℤ y → y <ℤ bottom → pixel_of corners drawing.view x y ≡ None)
      → frame ≡ frame_changed (below_row bottom change) frame
  rows_none bottom under = frame_changed-kept frame whole (below_row bottom change) (none_below bottom under)

  -- one more row
  pub rows_more : (y : ℤ) (now after : FrameView) → IsKept drawing corners → now ≡ frame_changed (below_row y change) frame
      → after ≡ frame_changed (cell_after_all drawing (fragments_of (triangle_of corners drawing.view area) y)) now
      → after ≡ frame_changed (below_row (y +ℤ pos 1) change) frame
  rows_more y now after kept so_far is =
      let row = cell_after_all drawing (fragments_of (triangle_of corners drawing.view area) y) in
      is
      ∙ ap (frame_changed row) so_far
      ∙ frame_changed-twice (below_row y change) row frame
      ∙ frame_changed-same frame whole (λ place old. row place (below_row y change place old)) (below_row (y +ℤ pos 1) change)
      (λ place old in_width in_height. row_more drawing corners frame.width frame.height area of_frame y place old kept in_width in_height)

  -- all rows
  pub rows_all : (y top : ℤ) (now : FrameView) → top ≤ℤ y → ((x row : ℤ) → top ≤ℤ row → row <ℤ area.top → pixel_of corners drawing.view x row ≡ None)
      → now ≡ frame_changed (below_row y change) frame → now ≡ frame_changed change frame
  rows_all y top now past over so_far = so_far ∙ frame_changed-same frame whole (below_row y change) change (all_below y top past over)
