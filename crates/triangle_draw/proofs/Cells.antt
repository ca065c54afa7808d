-- What the fragments of a row make of a cell, one after the other, is what the triangle makes of it.
use Rattle.std.proofs.Common.{◌≡◌, ℕ, zero, suc, ◌-◌, ◌<◌, ℤ, pos, negsuc, ◌+ℤ◌, ◌-ℤ◌, ◌<ℤ◌, ◌≤ℤ◌, Bool, true, false, ◌&&◌, cond, eqb, List, [], Option, Some, None, refl, sym, ap, ◌∙◌, inl, inr, arith}
use Rattle.std.specs.Prelude.{int_le, int_lt, if◌then◌else◌}
use Rattle.std.specs.List.{cons_option}
use Rattle.std.proofs.lemmas.Bool.{and_from, and_parts, cases_Bool, cond_both, cond-false, cond-true}
use Rattle.std.proofs.lemmas.Bool.Decides.{nat_tests}
use Rattle.std.proofs.lemmas.Int.{ints}
use Rattle.triangle_raster.specs.declared.fragment.Fragment.{Fragment}
use Rattle.triangle_raster.specs.declared.vertex.Area.{Area}
use Rattle.triangle_raster.specs.declared.vertex.Vertex.{Vertex}
use Rattle.triangle_raster.specs.Pixel.{delta_of, pixel_of}
use Rattle.triangle_raster.specs.Row.{count_of, fragments_of, numbers_from, pixels_at, triangle_of}
use Rattle.triangle_raster.proofs.Ranges.{some_is_pixel}
use Rattle.fragment_ops.specs.declared.cell.Cell.{Cell}
use Rattle.fragment_ops.specs.declared.place.Place.{Place}
use Rattle.fragment_ops.specs.Cell.{cell_after_put, is_within, passes_scissor}
use Rattle.fragment_ops.specs.Frame.{is_at, only_at}
use Rattle.fragment_ops.proofs.Keeping.{fragment_keeps}
use Rattle.triangle_draw.specs.declared.drawing.Drawing.{Drawing}
use Rattle.triangle_draw.specs.Area.{IsAreaOf, is_in_area}
use Rattle.triangle_draw.specs.Drawing.{is_culled}
use Rattle.triangle_draw.specs.Fragments.{IsKept, below_row, cell_after_all, cell_after_one}
use Rattle.triangle_draw.specs.Triangle.{brought_by, cell_after_fragment, cell_after_triangle, rectangle_of}

-- ---- a change at one place, there and beside it
is_at-here : (column row : ℕ) (place : Place) → column ≡ place.column → row ≡ place.row → is_at (pos column) (pos row) place ≡ true
unfolding is_at
is_at-here column row place across upwards = grind (arith, nat_tests)

is_at-beside : (x y : ℤ) (place : Place) → (x ≡ pos place.column → y ≡ pos place.row → ⊥) → is_at x y place ≡ false
unfolding is_at
is_at-beside (negsuc n) y place beside = refl
is_at-beside (pos column) (negsuc n) place beside = refl
is_at-beside (pos column) (pos row) place beside =
    elim (cases_Bool (eqb column place.column && eqb row place.row)) [
      | inl is ↦ absurd (grind (arith, nat_tests))
      | inr isnt ↦ isnt
    ]

module _ (change : Place → Cell → Cell) (place : Place) (old : Cell) where
  only_at-here : (x y : ℤ) → x ≡ pos place.column → y ≡ pos place.row → only_at x y change place old ≡ change place old
  unfolding only_at
  only_at-here x y across upwards =
      ap (λ (z : ℤ). only_at z y change place old) across
      ∙ ap (λ (z : ℤ). only_at (pos place.column) z change place old) upwards
      ∙ cond-true (is_at (pos place.column) (pos place.row) place) (change place old) old (is_at-here place.column place.row place refl refl)

  only_at-beside : (x y : ℤ) → (x ≡ pos place.column → y ≡ pos place.row → ⊥) → only_at x y change place old ≡ old
  unfolding only_at
  only_at-beside x y beside = cond-false (is_at x y place) (change place old) old (is_at-beside x y place beside)

same_either : (test : Bool) (old : Cell) → cond test old old ≡ old
same_either true old = refl
same_either false old = refl

module _ (drawing : Drawing) (corners : List Vertex) where
  -- ---- the fragments of columns that follow one another
  after_found : (x y : ℤ) (found : Option Fragment) → ((f : Fragment) → found ≡ Some f → (f.x ≡ x) × (f.y ≡ y)) → (fs : List Fragment) (place : Place) (old : Cell)
      → cell_after_all drawing (cons_option found fs) place old ≡ cell_after_all drawing fs place (only_at x y (cell_after_fragment drawing found) place old)
  unfolding cell_after_all cell_after_one only_at
  after_found x y None lies fs place old = ap (cell_after_all drawing fs place) (sym (same_either (is_at x y place) old))
  after_found x y (Some f) lies fs place old =
      let there = lies f refl in
      let change : Place → Cell → Cell = λ at. cell_after_put at drawing.fragments (brought_by drawing f) in
      ap (λ (z : ℤ). cell_after_all drawing fs place (only_at z f.y change place old)) there.0
      ∙ ap (λ (z : ℤ). cell_after_all drawing fs place (only_at x z change place old)) there.1

  found_lies : (x y : ℤ) (f : Fragment) → pixel_of corners drawing.view x y ≡ Some f → (f.x ≡ x) × (f.y ≡ y)
  found_lies x y f found = let pixel = some_is_pixel corners drawing.view x y f found in (pixel.column, pixel.line)

  -- the fragments of so many columns from x on
  abbrev pixels_from : ℤ → ℤ → ℕ → List Fragment
  pixels_from y x n = pixels_at corners drawing.view y (numbers_from x n)

  one_more : (y x : ℤ) (n : ℕ) (place : Place) (old : Cell) → cell_after_all drawing (pixels_from y x (suc n)) place old
      ≡ cell_after_all drawing (pixels_from y (x +ℤ pos 1) n) place (only_at x y (cell_after_fragment drawing (pixel_of corners drawing.view x y)) place old)
  one_more y x n place old = after_found x y (pixel_of corners drawing.view x y) (found_lies x y) (pixels_from y (x +ℤ pos 1) n) place old

  beside : (y x : ℤ) (n : ℕ) (place : Place) (old : Cell) → ((k : ℕ) → k < n → (x +ℤ pos k) ≡ pos place.column → y ≡ pos place.row → ⊥)
      → cell_after_all drawing (pixels_from y x n) place old ≡ old
  unfolding cell_after_all
  beside y x zero place old not_there = refl
  beside y x (suc n) place old not_there =
      one_more y x n place old
      ∙ ap (cell_after_all drawing (pixels_from y (x +ℤ pos 1) n) place)
      (only_at-beside (cell_after_fragment drawing (pixel_of corners drawing.view x y)) place old x y (λ across upwards. not_there 0 (omega arith) (omega (arith, ints)) upwards))
      ∙ beside y (x +ℤ pos 1) n place old (λ k below across upwards. not_there (suc k) (omega arith) (omega (arith, ints)) upwards)

  there : (y x : ℤ) (n k : ℕ) (place : Place) (old : Cell) → k < n → (x +ℤ pos k) ≡ pos place.column → y ≡ pos place.row
      → cell_after_all drawing (pixels_from y x n) place old
      ≡ cell_after_fragment drawing (pixel_of corners drawing.view (pos place.column) (pos place.row)) place old
  there y x zero k place old below across upwards = absurd (omega arith)
  there y x (suc n) zero place old below across upwards =
      let here : x ≡ pos place.column = omega (arith, ints) in
      one_more y x n place old
      ∙ ap (cell_after_all drawing (pixels_from y (x +ℤ pos 1) n) place)
      (only_at-here (cell_after_fragment drawing (pixel_of corners drawing.view x y)) place old x y here upwards)
      ∙ beside y (x +ℤ pos 1) n place (cell_after_fragment drawing (pixel_of corners drawing.view x y) place old) (λ j less further same. absurd (omega (arith, ints)))
      ∙ ap (λ (z : ℤ). cell_after_fragment drawing (pixel_of corners drawing.view z y) place old) here
      ∙ ap (λ (z : ℤ). cell_after_fragment drawing (pixel_of corners drawing.view (pos place.column) z) place old) upwards
  there y x (suc n) (suc k) place old below across upwards =
      one_more y x n place old
      ∙ ap (cell_after_all drawing (pixels_from y (x +ℤ pos 1) n) place)
      (only_at-beside (cell_after_fragment drawing (pixel_of corners drawing.view x y)) place old x y (λ here same. absurd (omega (arith, ints))))
      ∙ there y (x +ℤ pos 1) n k place old (omega arith) (omega (arith, ints)) upwards

  -- ---- a fragment where the scissor test fails
  unscissored : (found : Option Fragment) (place : Place) (old : Cell) → passes_scissor drawing.fragments place ≡ false → cell_after_fragment drawing found place old ≡ old
  unscissored None place old fails = refl
  unscissored (Some f) place old fails = (fragment_keeps drawing.fragments place (brought_by drawing f) old).outside fails

  other_fails : (a b : Bool) → (a && b) ≡ false → a ≡ true → b ≡ false
  other_fails true b both is = both
  other_fails false b both is = cc

  first_fails : (a b : Bool) → (a && b) ≡ false → b ≡ true → a ≡ false
  first_fails true b both is = cc
  first_fails false b both is = refl

  within_first : (a b : Bool) → (a && b) ≡ true → a ≡ true
  within_first true b both = refl
  within_first false b both = both

  module _ (width height : ℕ) (area : Area) (of_frame : IsAreaOf drawing width height area) where
    -- outside the area the triangle leaves the cell
    pub cell_outside : (place : Place) (old : Cell) → place.column < width → place.row < height → is_in_area area place ≡ false → cell_after_triangle drawing corners place old ≡ old
    unfolding cell_after_triangle
    cell_outside place old in_width in_height out =
        let tests = sym (of_frame.places place.column place.row in_width in_height) ∙ out in
        cond_both (is_culled drawing (delta_of corners drawing.view)) _ _ (λ (c : Cell). c ≡ old) (λ _. refl) (λ _.
        cond_both (is_within (rectangle_of drawing.view) place) _ _ (λ (c : Cell). c ≡ old)
        (λ within. unscissored (pixel_of corners drawing.view (pos place.column) (pos place.row)) place old (other_fails _ _ tests within)) (λ _. refl))

    -- the fragments of another row
    by_columns : (inside : Bool) (y : ℤ) (place : Place) (old : Cell) → (y ≡ pos place.row → ⊥)
        → cell_after_all drawing (pixels_at corners drawing.view y (if inside then numbers_from area.left (count_of (area.right -ℤ area.left)) else [])) place old ≡ old
    unfolding cell_after_all
    by_columns true y place old other = beside y area.left (count_of (area.right -ℤ area.left)) place old (λ k below across upwards. other upwards)
    by_columns false y place old other = refl

    row_beside : (y : ℤ) (place : Place) (old : Cell) → (y ≡ pos place.row → ⊥) → cell_after_all drawing (fragments_of (triangle_of corners drawing.view area) y) place old ≡ old
    row_beside y place old other = by_columns (int_le area.bottom y && int_lt y area.top) y place old other

    -- the fragments of the row, where the place is in the area
    below_count : (k : ℕ) (z : ℤ) → pos k <ℤ z → k < count_of z
    below_count k (pos n) less = omega (arith, ints)
    below_count k (negsuc n) less = absurd (omega (arith, ints))

    above_count : (k : ℕ) (z : ℤ) → k < count_of z → pos k <ℤ z
    above_count k (pos n) less = omega (arith, ints)
    above_count k (negsuc n) less = absurd (omega arith)

    has_column : (left right : ℤ) (column k : ℕ) → k < count_of (right -ℤ left) → (left +ℤ pos k) ≡ pos column → (int_le left (pos column) && int_lt (pos column) right) ≡ true
    has_column left right column k below is =
        let less : pos k <ℤ (right -ℤ left) = above_count k (right -ℤ left) below in
        let from : left ≤ℤ pos column = omega (arith, ints) in
        let before : pos column <ℤ right = omega (arith, ints) in
        let from_test : int_le left (pos column) ≡ true = grind (arith, ints) in
        let before_test : int_lt (pos column) right ≡ true = grind (arith, ints) in
        and_from (int_le left (pos column)) (int_lt (pos column) right) from_test before_test

    not_across : (a : Bool) → a ≡ false → a ≡ true → ⊥
    not_across a isnt is = cc

    record IsColumn (left : ℤ) (count column : ℕ) : Type 0 where
      k : ℕ
      below : k < count
      is : (left +ℤ pos k) ≡ pos column

    column_of : (left right : ℤ) (column : ℕ) → pos 0 ≤ℤ left → int_le left (pos column) ≡ true → int_lt (pos column) right ≡ true → IsColumn left (count_of (right -ℤ left)) column
    column_of (pos left) right column low from before = record {
      k = column - left;
      below = below_count (column - left) (right -ℤ pos left) (omega (arith, ints));
      is = omega (arith, ints);
    }
    column_of (negsuc n) right column low from before = absurd (omega (arith, ints))

    row_inside : (place : Place) (old : Cell) → is_in_area area place ≡ true
        → cell_after_all drawing (fragments_of (triangle_of corners drawing.view area) (pos place.row)) place old
        ≡ cell_after_fragment drawing (pixel_of corners drawing.view (pos place.column) (pos place.row)) place old
    unfolding is_in_area
    row_inside place old is =
        let both = and_parts _ _ is in
        let across = and_parts _ _ both.0 in
        let column = column_of area.left area.right place.column of_frame.bounds.from_left.0 across.0 across.1 in
        ap (λ (inside : Bool). cell_after_all drawing (pixels_at corners drawing.view (pos place.row) (if inside then numbers_from area.left (count_of (area.right -ℤ area.left)) else [])) place old) both.1
        ∙ there (pos place.row) area.left (count_of (area.right -ℤ area.left)) column.k place old column.below column.is refl

    row_outside : (place : Place) (old : Cell) → is_in_area area place ≡ false
        → cell_after_all drawing (fragments_of (triangle_of corners drawing.view area) (pos place.row)) place old ≡ old
    unfolding is_in_area cell_after_all
    row_outside place old out =
        let row = pos place.row in
        let columns = numbers_from area.left (count_of (area.right -ℤ area.left)) in
        let made = λ (inside : Bool). cell_after_all drawing (pixels_at corners drawing.view row (if inside then columns else [])) place old in
        elim (cases_Bool (int_le area.bottom row && int_lt row area.top)) [
          | inl inside ↦
              ap made inside
              ∙ beside row area.left (count_of (area.right -ℤ area.left)) place old
              (λ k below same upwards. not_across (int_le area.left (pos place.column) && int_lt (pos place.column) area.right) (first_fails _ _ out inside)
              (has_column area.left area.right place.column k below same))
          | inr beyond ↦ ap made beyond
        ]

    triangle_inside : (place : Place) (old : Cell) → IsKept drawing corners → place.column < width → place.row < height → is_in_area area place ≡ true
        → cell_after_triangle drawing corners place old ≡ cell_after_fragment drawing (pixel_of corners drawing.view (pos place.column) (pos place.row)) place old
    unfolding cell_after_triangle
    triangle_inside place old kept in_width in_height is =
        let tests = sym (of_frame.places place.column place.row in_width in_height) ∙ is in
        let found = cell_after_fragment drawing (pixel_of corners drawing.view (pos place.column) (pos place.row)) place old in
        cond-false (is_culled drawing (delta_of corners drawing.view)) old (cond (is_within (rectangle_of drawing.view) place) found old) kept
        ∙ cond-true (is_within (rectangle_of drawing.view) place) found old (within_first _ _ tests)

    -- the fragments of the row of a place
    row_there : (place : Place) (old : Cell) → IsKept drawing corners → place.column < width → place.row < height
        → cell_after_all drawing (fragments_of (triangle_of corners drawing.view area) (pos place.row)) place old ≡ cell_after_triangle drawing corners place old
    row_there place old kept in_width in_height =
        elim (cases_Bool (is_in_area area place)) [
          | inl is ↦ row_inside place old is ∙ sym (triangle_inside place old kept in_width in_height is)
          | inr out ↦ row_outside place old out ∙ sym (cell_outside place old in_width in_height out)
        ]

    rises : (row y : ℤ) → int_lt row y ≡ true → int_lt row (y +ℤ pos 1) ≡ true
    rises row y before =
        let less : row <ℤ y = omega (arith, ints) in
        let next : row <ℤ (y +ℤ pos 1) = omega (arith, ints) in
        grind (arith, ints)

    -- one more row
    pub row_more : (y : ℤ) (place : Place) (old : Cell) → IsKept drawing corners → place.column < width → place.row < height
        → cell_after_all drawing (fragments_of (triangle_of corners drawing.view area) y) place (below_row y (cell_after_triangle drawing corners) place old)
        ≡ below_row (y +ℤ pos 1) (cell_after_triangle drawing corners) place old
    unfolding below_row
    row_more y place old kept in_width in_height =
        let change = cell_after_triangle drawing corners in
        let all = λ (z : ℤ). cell_after_all drawing (fragments_of (triangle_of corners drawing.view area) z) place in
        let row = pos place.row in
        elim (cases_Bool (int_lt row y)) [
          | inl before ↦
              let before_next : int_lt row (y +ℤ pos 1) ≡ true = rises (pos place.row) y before in
              ap (λ (t : Bool). all y (cond t (change place old) old)) before
              ∙ row_beside y place (change place old) (λ same. absurd (omega (arith, ints)))
              ∙ sym (cond-true (int_lt row (y +ℤ pos 1)) (change place old) old before_next)
          | inr not_before ↦
              ap (λ (t : Bool). all y (cond t (change place old) old)) not_before
              ∙ elim (cases_Bool (int_lt row (y +ℤ pos 1))) [
                | inl now ↦
                    let same : y ≡ row = omega (arith, ints) in
                    ap (λ (z : ℤ). all z old) same ∙ row_there place old kept in_width in_height ∙ sym (cond-true (int_lt row (y +ℤ pos 1)) (change place old) old now)
                | inr later ↦ row_beside y place old (λ same. absurd (omega (arith, ints))) ∙ sym (cond-false (int_lt row (y +ℤ pos 1)) (change place old) old later)
              ]
        ]
