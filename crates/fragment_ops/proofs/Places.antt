-- Where a place stands among the cells of a frame, what a change at one place leaves, and what is read at it.
use Rattle.std.proofs.Common.{◌≡◌, ℕ, ◌+◌, ◌*◌, ◌/◌, ◌%◌, ◌<◌, ◌≤◌, ℤ, pos, negsuc, ◌<ℤ◌, Bool, true, false, ◌&&◌, cond, List, length, get_or, set, Some, None, refl, sym, ap, subst, ◌∙◌, inl, inr, eqb, ltb, arith}
use Rattle.std.proofs.lemmas.Bool.{and_from, and_left, and_parts, and_right, cases_Bool, eqb-true, le-ltb, lt-ltb, ltb-true}
use Rattle.std.proofs.lemmas.Bool.Decides.{nat_tests}
use Rattle.std.proofs.lemmas.Int.{ints}
use Rattle.std.proofs.lemmas.Nat.{div-mul-add, mod-mul-add, mod_below, div_below, div-add-mod', mul-add-lt}
use Rattle.std.proofs.lemmas.Option.{none-some}
use Rattle.fragment_ops.specs.declared.cell.Cell.{Cell}
use Rattle.fragment_ops.specs.declared.place.Place.{Place}
use Rattle.fragment_ops.specs.Frame.{FrameView, IsFrame, cell_at, changed_from, colour_at, first_cell, frame_changed, is_among, is_at, no_colour, only_among, only_at, pixel_at, place_at, place_in}
use Rattle.fragment_ops.specs.declared.area.Area.{Area}
use Rattle.fragment_ops.specs.declared.state.FragmentState.{FragmentState}
use Rattle.fragment_ops.specs.Cell.{Fragment, cell_after_clear, cell_after_put, cell_cleared, passes_scissor}
use Rattle.fragment_ops.specs.Laws.{IsChangedBy}
use Rattle.fragment_ops.specs.Rows.{cell_tested, in_area, is_in_area}
use Rattle.fragment_ops.proofs.Changes.{changed_from-kept, changed_from-same, get_or-changed_from, set-changed_from}

-- a place with this column and this row
abbrev pub placed : ℕ → ℕ → Place
placed column row = record { column = column; row = row }

-- a frame with other cells
abbrev pub with_cells : FrameView → List Cell → FrameView
with_cells frame cells = record frame { cells = cells }

place_at-before : (width column row : ℕ) → column < width → place_at width (row * width + column) ≡ placed column row
place_at-before width column row inside =
    ap (λ (c : ℕ). placed c ((row * width + column) / width)) (mod-mul-add row width column inside)
    ∙ ap (placed column) (div-mul-add row width column inside)

module _ (frame : FrameView) where
  -- the place in a column and a row: none left of the frame, below it, right of it and above it
  pub place_in-left : (x y : ℤ) → x <ℤ pos 0 → None ≡ place_in frame x y
  place_in-left (negsuc n) y h = refl
  place_in-left (pos n) y h = absurd (omega (arith, ints))

  pub place_in-below : (x y : ℤ) → y <ℤ pos 0 → None ≡ place_in frame x y
  place_in-below (negsuc n) y h = refl
  place_in-below (pos n) (negsuc m) h = refl
  place_in-below (pos n) (pos m) h = absurd (omega (arith, ints))

  pub place_in-right : (x y : ℤ) (column row : ℕ) → x ≡ pos column → y ≡ pos row → frame.width ≤ column → None ≡ place_in frame x y
  place_in-right x y column row is_x is_y h =
      let there : None ≡ place_in frame (pos column) (pos row) =
      sym (ap (λ (test : Bool). cond test (Some (placed column row)) None) (and_left (ltb column frame.width) (ltb row frame.height) (le-ltb column frame.width h))) in
      there ∙ ap (λ (z : ℤ). place_in frame z (pos row)) (sym is_x) ∙ ap (place_in frame x) (sym is_y)

  pub place_in-above : (x y : ℤ) (column row : ℕ) → x ≡ pos column → y ≡ pos row → frame.height ≤ row → None ≡ place_in frame x y
  place_in-above x y column row is_x is_y h =
      let there : None ≡ place_in frame (pos column) (pos row) =
      sym (ap (λ (test : Bool). cond test (Some (placed column row)) None) (and_right (ltb column frame.width) (ltb row frame.height) (le-ltb row frame.height h))) in
      there ∙ ap (λ (z : ℤ). place_in frame z (pos row)) (sym is_x) ∙ ap (place_in frame x) (sym is_y)

  -- and inside it that place
  pub place_in-inside : (x y : ℤ) (column row : ℕ) → x ≡ pos column → y ≡ pos row → column < frame.width → row < frame.height → Some (placed column row) ≡ place_in frame x y
  place_in-inside x y column row is_x is_y in_width in_height =
      let there : Some (placed column row) ≡ place_in frame (pos column) (pos row) =
      sym (
      ap (λ (test : Bool). cond test (Some (placed column row)) None)
      (and_from (ltb column frame.width) (ltb row frame.height) (lt-ltb column frame.width in_width) (lt-ltb row frame.height in_height))
      ) in
      there ∙ ap (λ (z : ℤ). place_in frame z (pos row)) (sym is_x) ∙ ap (place_in frame x) (sym is_y)

  -- a place that was found lies inside, in that column and that row
  pub record Found (x y : ℤ) (place : Place) : Type 0 where
    pub in_width : place.column < frame.width
    pub in_height : place.row < frame.height
    pub column_is : x ≡ pos place.column
    pub row_is : y ≡ pos place.row

  pub place_in-found : (x y : ℤ) (place : Place) → place_in frame x y ≡ Some place → Found x y place
  place_in-found (negsuc n) y place found = absurd (none-some place found)
  place_in-found (pos column) (negsuc n) place found = absurd (none-some place found)
  place_in-found (pos column) (pos row) place found =
      elim (cases_Bool (ltb column frame.width && ltb row frame.height)) [
        | inl inside ↦
            let parts = and_parts (ltb column frame.width) (ltb row frame.height) inside in
            let same : Some (placed column row) ≡ Some place = sym (ap (λ (test : Bool). cond test (Some (placed column row)) None) inside) ∙ found in
            let is : placed column row ≡ place = cc in
            record {
              in_width = subst (λ (p : Place). p.column < frame.width) is (ltb-true column frame.width parts.0);
              in_height = subst (λ (p : Place). p.row < frame.height) is (ltb-true row frame.height parts.1);
              column_is = ap (λ (p : Place). pos p.column) is;
              row_is = ap (λ (p : Place). pos p.row) is;
            }
        | inr beside ↦ absurd (none-some place (sym (ap (λ (test : Bool). cond test (Some (placed column row)) None) beside) ∙ found))
      ]

module _ (change : Place → Cell → Cell) (column row : ℕ) where
  at_place : (old : Cell) → change (placed column row) old ≡ only_at (pos column) (pos row) change (placed column row) old
  unfolding only_at is_at
  at_place old = grind (arith, nat_tests)

  at_other : (width k : ℕ) (old : Cell) → (k / width ≡ row → k % width ≡ column → ⊥) → only_at (pos column) (pos row) change (place_at width k) old ≡ old
  unfolding only_at is_at
  at_other width k old other =
      elim (cases_Bool (eqb column (k % width) && eqb row (k / width))) [
        | inl is ↦
            let tests = and_parts (eqb column (k % width)) (eqb row (k / width)) is in
            absurd (other (sym (eqb-true row (k / width) tests.1)) (sym (eqb-true column (k % width) tests.0)))
        | inr isnt ↦ ap (λ (test : Bool). cond test (change (place_at width k) old) old) isnt
      ]

  -- the cell at a place is written, and no other
  pub frame_changed-written : (frame : FrameView) (new : Cell) → IsFrame frame → column < frame.width → row < frame.height
      → new ≡ change (placed column row) (cell_at frame (placed column row))
      → with_cells frame (set frame.cells (row * frame.width + column) new) ≡ frame_changed (only_at (pos column) (pos row) change) frame
  unfolding frame_changed cell_at
  frame_changed-written frame new whole in_width in_height is =
      let width = frame.width in
      let at = row * width + column in
      let old = get_or frame.cells at first_cell in
      let inside : at < length frame.cells = omega (arith, whole.count, mul-add-lt row width column frame.height in_height in_width) in
      let first : at ≡ 0 + at = omega arith in
      let there : placed column row ≡ place_at width (0 + at) = sym (place_at-before width column row in_width) ∙ ap (place_at width) first in
      ap (with_cells frame) (
      set-changed_from (λ before. only_at (pos column) (pos row) change (place_at width before)) 0 frame.cells at first_cell new inside
      (is ∙ at_place old ∙ ap (λ (place : Place). only_at (pos column) (pos row) change place old) there)
      (λ k cell other. at_other width k cell (λ same_row same_column. other (
      sym (div-add-mod' k width) ∙ ap (λ (q : ℕ). q * width + k % width) same_row ∙ ap (λ (c : ℕ). row * width + c) same_column ∙ first
      )))
      )

module _ (change : Place → Cell → Cell) (frame : FrameView) where
  outside : (x y : ℤ) (k : ℕ) (cell : Cell) → IsFrame frame → place_in frame x y ≡ None → k < length frame.cells → only_at x y change (place_at frame.width k) cell ≡ cell
  unfolding only_at is_at
  outside (negsuc n) y k cell whole none inside = refl
  outside (pos column) (negsuc n) k cell whole none inside = refl
  outside (pos column) (pos row) k cell whole none inside =
      let in_width : k % frame.width < frame.width = mod_below k frame.width (omega (arith, whole.sides.wide)) in
      let in_height : k / frame.width < frame.height = div_below k frame.width frame.height (omega (arith, whole.sides.wide)) (omega (arith, whole.count)) in
      at_other change column row frame.width k cell (λ same_row same_column.
      none-some (placed column row) (
      sym none ∙ ap (λ (test : Bool). cond test (Some (placed column row)) None)
      (and_from (ltb column frame.width) (ltb row frame.height) (lt-ltb column frame.width (omega arith)) (lt-ltb row frame.height (omega arith)))
      ))

  -- outside the frame nothing is written
  pub frame_changed-outside : (x y : ℤ) → IsFrame frame → place_in frame x y ≡ None → frame ≡ frame_changed (only_at x y change) frame
  unfolding frame_changed
  frame_changed-outside x y whole none =
      ap (with_cells frame) (changed_from-kept (λ before. only_at x y change (place_at frame.width before)) 0 frame.cells (λ k cell low high. outside x y k cell whole none (omega arith)))

-- the cell at the place in column x and row y is written, and no other
pub frame_changed-put : (change : Place → Cell → Cell) (frame : FrameView) (x y : ℤ) (place : Place) (at : ℕ) (new : Cell) → IsFrame frame
    → place_in frame x y ≡ Some place → at ≡ place.row * frame.width + place.column → new ≡ change place (cell_at frame place)
    → with_cells frame (set frame.cells at new) ≡ frame_changed (only_at x y change) frame
frame_changed-put change frame x y place at new whole there at_is is =
    let found = place_in-found frame x y place there in
    ap (λ (n : ℕ). with_cells frame (set frame.cells n new)) at_is
    ∙ frame_changed-written change place.column place.row frame new whole found.in_width found.in_height is
    ∙ ap (λ (z : ℤ). frame_changed (only_at z (pos place.row) change) frame) (sym found.column_is)
    ∙ ap (λ (z : ℤ). frame_changed (only_at x z change) frame) (sym found.row_is)

-- what is read in column x and row y
pub pixel_at-found : (frame : FrameView) (x y : ℤ) (place : Place) → place_in frame x y ≡ Some place → (cell_at frame place).colour ≡ pixel_at frame x y
pixel_at-found frame x y place there = sym (ap (colour_at frame) there)

pub pixel_at-outside : (frame : FrameView) (x y : ℤ) → place_in frame x y ≡ None → no_colour ≡ pixel_at frame x y
pixel_at-outside frame x y none = sym (ap (colour_at frame) none)

-- a frame after a change, place by place
pub frame_changed-each : (change : Place → Cell → Cell) (frame : FrameView) → IsFrame frame → IsChangedBy change frame (frame_changed change frame)
unfolding frame_changed cell_at
frame_changed-each change frame whole = record {
  same_width = refl;
  same_height = refl;
  cells = λ place in_width in_height.
      let width = frame.width in
      let at = place.row * width + place.column in
      let inside : at < length frame.cells = omega (arith, whole.count, mul-add-lt place.row width place.column frame.height in_height in_width) in
      let first : 0 + at ≡ at = omega arith in
      get_or-changed_from (λ before. change (place_at width before)) 0 frame.cells at first_cell inside
      ∙ ap (λ (p : Place). change p (get_or frame.cells at first_cell)) (ap (place_at width) first ∙ place_at-before width place.column place.row in_width);
}

-- the cells of an area are cleared, which is that of the places that pass the scissor test
pub frame_changed-cleared : (state : FragmentState) (colour depth : Bool) (frame : FrameView) (area : Area) → IsFrame frame
    → ((column row : ℕ) → column < frame.width → row < frame.height → is_in_area area (placed column row) ≡ passes_scissor state (placed column row))
    → with_cells frame (changed_from (in_area area (cell_cleared state colour depth) frame.width) 0 frame.cells)
    ≡ frame_changed (λ place. cell_after_clear place state colour depth) frame
unfolding frame_changed in_area cell_after_clear
frame_changed-cleared state colour depth frame area whole same =
    let width = frame.width in
    ap (with_cells frame) (
    changed_from-same (in_area area (cell_cleared state colour depth) width) (λ before. cell_after_clear (place_at width before) state colour depth) 0 frame.cells
    (λ k cell low high.
    let in_width : k % width < width = mod_below k width (omega (arith, whole.sides.wide)) in
    let in_height : k / width < frame.height = div_below k width frame.height (omega (arith, whole.sides.wide)) (omega (arith, whole.count)) in
    ap (λ (test : Bool). cond test (cell_cleared state colour depth cell) cell) (same (k % width) (k / width) in_width in_height))
    )

in_turn : (one other : Bool) (new old : Cell) → cond (one && other) new old ≡ cond other (cond one new old) old
in_turn true true new old = refl
in_turn true false new old = refl
in_turn false true new old = refl
in_turn false false new old = refl

-- a fragment comes to each cell of an area, which is that of the places of a run that pass the scissor test
pub frame_changed-run : (state : FragmentState) (fragment : Fragment) (frame : FrameView) (area : Area) (x y : ℤ) (count : ℕ) → IsFrame frame
    → ((column row : ℕ) → column < frame.width → row < frame.height
    → is_in_area area (placed column row) ≡ (passes_scissor state (placed column row) && is_among x y count (placed column row)))
    → with_cells frame (changed_from (in_area area (cell_tested state fragment) frame.width) 0 frame.cells)
    ≡ frame_changed (only_among x y count (λ place. cell_after_put place state fragment)) frame
unfolding frame_changed in_area only_among cell_after_put cell_tested
frame_changed-run state fragment frame area x y count whole same =
    let width = frame.width in
    ap (with_cells frame) (
    changed_from-same (in_area area (cell_tested state fragment) width)
    (λ before. only_among x y count (λ place. cell_after_put place state fragment) (place_at width before)) 0 frame.cells
    (λ k cell low high.
    let in_width : k % width < width = mod_below k width (omega (arith, whole.sides.wide)) in
    let in_height : k / width < frame.height = div_below k width frame.height (omega (arith, whole.sides.wide)) (omega (arith, whole.count)) in
    let place = place_at width k in
    ap (λ (test : Bool). cond test (cell_tested state fragment cell) cell) (same (k % width) (k / width) in_width in_height)
    ∙ in_turn (passes_scissor state place) (is_among x y count place) (cell_tested state fragment cell) cell)
    )
