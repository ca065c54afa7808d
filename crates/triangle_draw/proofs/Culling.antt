-- Triangles that are culled or flat leave the frame.
use Rattle.std.proofs.Common.{◌≡◌, zero, suc, ℤ, pos, negsuc, ◌<ℤ◌, Bool, true, false, not, List, Option, None, refl, sym, ap, arith}
use Rattle.std.specs.Prelude.{int_lt, IsTrue, ◌↔◌, if◌then◌else◌}
use Rattle.std.proofs.lemmas.Bool.{cond_both, cond-true}
use Rattle.std.proofs.lemmas.Int.{ints}
use Rattle.triangle_raster.specs.declared.fragment.Fragment.{Fragment}
use Rattle.triangle_raster.specs.declared.vertex.Vertex.{Vertex}
use Rattle.triangle_raster.specs.Pixel.{delta_of, is_covered, is_zero, kept_fragment, pixel_of, weights_of}
use Rattle.fragment_ops.specs.declared.cell.Cell.{Cell}
use Rattle.fragment_ops.specs.Cell.{is_within}
use Rattle.fragment_ops.specs.Frame.{FrameView, frame_changed}
use Rattle.fragment_ops.proofs.FrameChanges.{frame_changed-none}
use Rattle.triangle_draw.specs.declared.drawing.Drawing.{Drawing}
use Rattle.triangle_draw.specs.Drawing.{is_culled}
use Rattle.triangle_draw.specs.Triangle.{cell_after_fragment, cell_after_triangle, rectangle_of}

never : false ≡ true → ⊥
never is = cc

by_order : (delta : ℤ) → (delta ≡ pos 0 → ⊥) → (pos 0 <ℤ delta → ⊥) → delta <ℤ pos 0
by_order (pos zero) some not_above = absurd (some refl)
by_order (pos (suc n)) some not_above = absurd (not_above (omega (arith, ints)))
by_order (negsuc n) some not_above = omega (arith, ints)

-- whether a determinant that isn't zero is above zero or below it
record Turns (counter_clockwise : Bool) (delta : ℤ) : Type 0 where
  above : counter_clockwise ≡ int_lt (pos 0) delta
  below : not counter_clockwise ≡ int_lt delta (pos 0)

turns : (counter_clockwise : Bool) (delta : ℤ) → (delta ≡ pos 0 → ⊥) → (IsTrue counter_clockwise ↔ (pos 0 <ℤ delta)) → Turns counter_clockwise delta
turns true delta some is =
    let more : pos 0 <ℤ delta = is.0 refl in
    record { above = grind (arith, ints); below = grind (arith, ints) }
turns false delta some is =
    let not_more : pos 0 <ℤ delta → false ≡ true = is.1 in
    let not_above : pos 0 <ℤ delta → ⊥ = λ more. never (not_more more) in
    let less : delta <ℤ pos 0 = by_order delta some not_above in
    record { above = grind (arith, ints); below = grind (arith, ints) }

module _ (drawing : Drawing) (corners : List Vertex) where
  -- culling of a triangle is told by how its corners run
  pub is_culled-told : (counter_clockwise culled : Bool) → (delta_of corners drawing.view ≡ pos 0 → ⊥)
      → (IsTrue counter_clockwise ↔ (pos 0 <ℤ delta_of corners drawing.view))
      → ((delta : ℤ) → counter_clockwise ≡ int_lt (pos 0) delta → not counter_clockwise ≡ int_lt delta (pos 0) → culled ≡ is_culled drawing delta)
      → is_culled drawing (delta_of corners drawing.view) ≡ culled
  is_culled-told counter_clockwise culled some is told =
      let run = turns counter_clockwise (delta_of corners drawing.view) some is in
      sym (told (delta_of corners drawing.view) run.above run.below)

  -- a triangle that is culled
  pub culled_leaves : (frame : FrameView) → is_culled drawing (delta_of corners drawing.view) ≡ true → frame ≡ frame_changed (cell_after_triangle drawing corners) frame
  unfolding cell_after_triangle
  culled_leaves frame culled =
      frame_changed-none (cell_after_triangle drawing corners) frame (λ place old. cond-true (is_culled drawing (delta_of corners drawing.view)) old _ culled)

  no_pixel : (x y : ℤ) → delta_of corners drawing.view ≡ pos 0 → pixel_of corners drawing.view x y ≡ None
  unfolding pixel_of
  no_pixel x y flat =
      ap (λ (z : ℤ). if is_zero z then None else (if is_covered corners drawing.view x y then kept_fragment corners (weights_of corners drawing.view x y) x y else None)) flat

  -- a triangle whose corners stand on a line
  pub flat_leaves : (frame : FrameView) → delta_of corners drawing.view ≡ pos 0 → frame ≡ frame_changed (cell_after_triangle drawing corners) frame
  unfolding cell_after_triangle
  flat_leaves frame flat =
      frame_changed-none (cell_after_triangle drawing corners) frame (λ place old.
      cond_both (is_culled drawing (delta_of corners drawing.view)) _ _ (λ (c : Cell). c ≡ old) (λ _. refl) (λ _.
      cond_both (is_within (rectangle_of drawing.view) place) _ _ (λ (c : Cell). c ≡ old)
      (λ _. ap (λ (found : Option Fragment). cell_after_fragment drawing found place old) (no_pixel (pos place.column) (pos place.row) flat)) (λ _. refl)))
