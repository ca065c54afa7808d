-- The area of a draw: numbers that are cut from the sides of a frame, by the viewport and by the scissor rectangle.
use Rattle.std.proofs.Common.{◌≡◌, ℕ, ◌<◌, ◌≤◌, ℤ, pos, ◌+ℤ◌, Bool, true, false, ◌&&◌, cond, refl, sym, ap, subst, ◌∙◌, w32, to_z, of_z, arith}
use Rattle.std.specs.Prelude.{int_le, int_lt, FitsSigned}
use Rattle.std.proofs.lemmas.Int.{ints, to_z-of_z}
use Rattle.triangle_raster.specs.declared.vertex.Area.{Area}
use Rattle.triangle_raster.specs.Vertex.{IsFromTo}
use Rattle.fragment_ops.specs.Cell.{is_within, passes_scissor}
use Rattle.fragment_ops.specs.State.{number_at}
use Rattle.triangle_draw.specs.declared.drawing.Drawing.{Drawing}
use Rattle.triangle_draw.specs.Area.{IsAreaOf, is_in_area, placed}
use Rattle.triangle_draw.specs.Triangle.{rectangle_of}

-- a number as it is passed
abbrev pub passed : ℤ → ℤ
passed z = to_z w32 (of_z w32 z)

-- of the numbers from `first` to before `until`, those that are among so many from one on
pub record IsCut (first until number count new_first new_until : ℤ) : Type 0 where
  pub bounds_first : IsFromTo (pos 0) (pos 256) new_first
  pub bounds_until : IsFromTo (pos 0) (pos 256) new_until
  pub from : (at : ℕ) → at < 256 → int_le new_first (pos at) ≡ (int_le first (pos at) && int_le number (pos at))
  pub before : (at : ℕ) → int_lt (pos at) new_until ≡ (int_lt (pos at) until && int_lt (pos at) (number +ℤ count))

-- the end is that of the sum as it is computed
pub before_sum : (until number count sum : ℤ) (result : ℤ) (at : ℕ) → passed until ≡ until → sum ≡ number +ℤ count
    → int_lt (pos at) result ≡ (int_lt (pos at) (passed until) && int_lt (pos at) sum)
    → int_lt (pos at) result ≡ (int_lt (pos at) until && int_lt (pos at) (number +ℤ count))
before_sum until number count sum result at same whole is =
    is ∙ ap (λ (z : ℤ). int_lt (pos at) z && int_lt (pos at) sum) same ∙ ap (λ (z : ℤ). int_lt (pos at) until && int_lt (pos at) z) whole

-- a cut by numbers that are passed
pub cut_passed : (first until number count new_first new_until : ℤ) → FitsSigned w32 number → FitsSigned w32 count
    → IsFromTo (pos 0) (pos 256) new_first → IsFromTo (pos 0) (pos 256) new_until
    → ((at : ℕ) → at < 256 → int_le new_first (pos at) ≡ (int_le first (pos at) && int_le (passed number) (pos at)))
    → ((at : ℕ) → int_lt (pos at) new_until ≡ (int_lt (pos at) until && int_lt (pos at) (passed number +ℤ passed count)))
    → IsCut first until number count new_first new_until
cut_passed first until number count new_first new_until fits fits_too low high from before =
    let same = to_z-of_z w32 number fits in
    let same_too = to_z-of_z w32 count fits_too in
    record {
      bounds_first = low;
      bounds_until = high;
      from = λ at below. from at below ∙ ap (λ (z : ℤ). int_le first (pos at) && int_le z (pos at)) same;
      before = λ at. before at
          ∙ ap (λ (z : ℤ). int_lt (pos at) until && int_lt (pos at) (z +ℤ passed count)) same
          ∙ ap (λ (z : ℤ). int_lt (pos at) until && int_lt (pos at) (number +ℤ z)) same_too;
    }

swap_middle : (a b c d : Bool) → ((a && c) && (b && d)) ≡ ((a && b) && (c && d))
swap_middle false b c d = refl
swap_middle true true true d = refl
swap_middle true false true d = refl
swap_middle true true false d = refl
swap_middle true false false d = refl

-- a number is among those from `first` to before `until`
abbrev within_side : ℤ → ℤ → ℕ → Bool
within_side first until at = int_le first (pos at) && int_lt (pos at) until

cut_twice : (first until number count new_first new_until : ℤ) → IsCut first until number count new_first new_until → (at : ℕ) → at < 256
    → within_side new_first new_until at ≡ (within_side first until at && within_side number (number +ℤ count) at)
cut_twice first until number count new_first new_until is at below =
    ap (λ (t : Bool). t && int_lt (pos at) new_until) (is.from at below)
    ∙ ap (λ (t : Bool). (int_le first (pos at) && int_le number (pos at)) && t) (is.before at)
    ∙ swap_middle (int_le first (pos at)) (int_lt (pos at) until) (int_le number (pos at)) (int_lt (pos at) (number +ℤ count))

side_has : (side at : ℕ) → at < side → within_side (pos 0) (pos side) at ≡ true
side_has side at below = grind (arith, ints)

cut_side : (side : ℕ) (first until number count new_first new_until : ℤ) → IsCut first until number count new_first new_until → first ≡ pos 0 → until ≡ pos side → side ≤ 256
    → (at : ℕ) → at < side → within_side new_first new_until at ≡ within_side number (number +ℤ count) at
cut_side side first until number count new_first new_until is from_zero to_side few at below =
    cut_twice first until number count new_first new_until is at (omega arith)
    ∙ ap (λ (z : ℤ). within_side z until at && within_side number (number +ℤ count) at) from_zero
    ∙ ap (λ (z : ℤ). within_side (pos 0) z at && within_side number (number +ℤ count) at) to_side
    ∙ ap (λ (t : Bool). t && within_side number (number +ℤ count) at) (side_has side at below)

and_true_after : (a : Bool) → a ≡ (a && true)
and_true_after true = refl
and_true_after false = refl

abbrev area_by : ℤ → ℤ → ℤ → ℤ → Area
area_by left bottom right top = record { left = left; bottom = bottom; right = right; top = top }

module _ (drawing : Drawing) (width height : ℕ) (wide : width ≤ 256) (high : height ≤ 256) where
  -- an area whose sides are passed
  area_passed : (left bottom right top : ℤ) → IsFromTo (pos 0) (pos 256) left → IsFromTo (pos 0) (pos 256) bottom → IsFromTo (pos 0) (pos 256) right → IsFromTo (pos 0) (pos 256) top
      → IsAreaOf drawing width height (area_by left bottom right top) → IsAreaOf drawing width height (area_by (passed left) (passed bottom) (passed right) (passed top))
  area_passed left bottom right top l b r t is =
      let one : left ≡ passed left = omega (arith, ints) in
      let two : bottom ≡ passed bottom = omega (arith, ints) in
      let three : right ≡ passed right = omega (arith, ints) in
      let four : top ≡ passed top = omega (arith, ints) in
      subst (λ (z : ℤ). IsAreaOf drawing width height (area_by (passed left) (passed bottom) (passed right) z)) four
      (subst (λ (z : ℤ). IsAreaOf drawing width height (area_by (passed left) (passed bottom) z top)) three
      (subst (λ (z : ℤ). IsAreaOf drawing width height (area_by (passed left) z right top)) two
      (subst (λ (z : ℤ). IsAreaOf drawing width height (area_by z bottom right top)) one is)))

  -- the sides, cut by the viewport
  module _ (across_first across_until upwards_first upwards_until left right bottom top : ℤ)
      (columns : IsCut across_first across_until drawing.view.x drawing.view.width left right)
      (rows : IsCut upwards_first upwards_until drawing.view.y drawing.view.height bottom top)
      (from_left : across_first ≡ pos 0) (to_right : across_until ≡ pos width) (from_bottom : upwards_first ≡ pos 0) (to_top : upwards_until ≡ pos height) where
    in_viewport : (column row : ℕ) → column < width → row < height
        → (within_side left right column && within_side bottom top row) ≡ is_within (rectangle_of drawing.view) (placed column row)
    unfolding is_within
    in_viewport column row in_width in_height =
        ap (λ (t : Bool). t && within_side bottom top row) (cut_side width across_first across_until _ _ left right columns from_left to_right wide column in_width)
        ∙ ap (λ (t : Bool). within_side drawing.view.x (drawing.view.x +ℤ drawing.view.width) column && t)
        (cut_side height upwards_first upwards_until _ _ bottom top rows from_bottom to_top high row in_height)

    scissor_off : (place_in : Bool) (column row : ℕ) → drawing.fragments.scissor_on ≡ false → place_in ≡ (place_in && passes_scissor drawing.fragments (placed column row))
    scissor_off place_in column row off =
        and_true_after place_in ∙ ap (λ (t : Bool). place_in && cond t (is_within drawing.fragments.scissor (placed column row)) true) (sym off)

    -- the scissor test is disabled
    pub area_unscissored : drawing.fragments.scissor_on ≡ false → IsAreaOf drawing width height (area_by (passed left) (passed bottom) (passed right) (passed top))
    unfolding is_in_area
    area_unscissored off =
        area_passed left bottom right top columns.bounds_first rows.bounds_first columns.bounds_until rows.bounds_until
        (record {
          bounds = record { from_left = columns.bounds_first; from_bottom = rows.bounds_first; to_right = columns.bounds_until; to_top = rows.bounds_until };
          places = λ column row in_width in_height.
              in_viewport column row in_width in_height ∙ scissor_off (is_within (rectangle_of drawing.view) (placed column row)) column row off;
        })

    -- it is enabled
    pub area_scissored : (left' right' bottom' top' : ℤ) → drawing.fragments.scissor_on ≡ true
        → IsCut left right (number_at drawing.fragments.scissor 0) (number_at drawing.fragments.scissor 2) left' right'
        → IsCut bottom top (number_at drawing.fragments.scissor 1) (number_at drawing.fragments.scissor 3) bottom' top'
        → IsAreaOf drawing width height (area_by (passed left') (passed bottom') (passed right') (passed top'))
    unfolding is_in_area is_within
    area_scissored left' right' bottom' top' on columns_left rows_left =
        let s = drawing.fragments.scissor in
        area_passed left' bottom' right' top' columns_left.bounds_first rows_left.bounds_first columns_left.bounds_until rows_left.bounds_until
        (record {
          bounds = record { from_left = columns_left.bounds_first; from_bottom = rows_left.bounds_first; to_right = columns_left.bounds_until; to_top = rows_left.bounds_until };
          places = λ column row in_width in_height.
              let across = within_side left right column in
              let upwards = within_side bottom top row in
              let across_too = within_side (number_at s 0) (number_at s 0 +ℤ number_at s 2) column in
              let upwards_too = within_side (number_at s 1) (number_at s 1 +ℤ number_at s 3) row in
              ap (λ (t : Bool). t && within_side bottom' top' row) (cut_twice left right _ _ left' right' columns_left column (omega arith))
              ∙ ap (λ (t : Bool). (across && across_too) && t) (cut_twice bottom top _ _ bottom' top' rows_left row (omega arith))
              ∙ swap_middle across upwards across_too upwards_too
              ∙ ap (λ (t : Bool). t && (across_too && upwards_too)) (in_viewport column row in_width in_height)
              ∙ ap (λ (t : Bool). is_within (rectangle_of drawing.view) (placed column row) && cond t (across_too && upwards_too) true) (sym on);
        })
