-- Cells that follow one another, row by row, and the area that they fill.
use Rattle.std.proofs.Common.{◌≡◌, ◌≢◌, ℕ, suc, ◌+◌, ◌*◌, ◌/◌, ◌%◌, ◌<◌, ◌≤◌, Bool, true, false, ◌&&◌, ◌⊎◌, cond, leb, ltb, inl, inr, List, length, get_or, set, refl, sym, ap, ◌∙◌, arith}
use Rattle.std.specs.Prelude.{nat_le, nat_lt}
use Rattle.std.proofs.Math.Nat.{mul-le-mul_right, suc-mul}
use Rattle.std.proofs.lemmas.Bool.{and_left, and_right, cases_lt, cases_order, le-leb, le-ltb, lt-leb, lt-ltb}
use Rattle.std.proofs.lemmas.Bool.Decides.{nat_tests}
use Rattle.std.proofs.lemmas.Nat.{mod_below, div-add-mod'}
use Rattle.fragment_ops.specs.declared.cell.Cell.{Cell}
use Rattle.fragment_ops.specs.declared.area.Area.{Area}
use Rattle.fragment_ops.specs.Frame.{changed_from}
use Rattle.fragment_ops.specs.Rows.{in_area, in_run, is_in_area}
use Rattle.fragment_ops.proofs.Changes.{changed_from-same, changed_from-twice, changed_from-kept, set-changed_from}

module _ (first : ℕ) (change : Cell → Cell) where
  -- no cell yet
  pub in_run-none : (cells : List Cell) → cells ≡ changed_from (in_run first first change) 0 cells
  unfolding in_run
  in_run-none cells = changed_from-kept (in_run first first change) 0 cells (λ at cell from to. grind (arith, nat_tests))

  one_kept : (at k : ℕ) (cell : Cell) → k ≢ 0 + at → in_run at (at + 1) change k cell ≡ cell
  unfolding in_run
  one_kept at k cell other = grind (arith, nat_tests)

  one_changed : (at : ℕ) (cell : Cell) → change cell ≡ in_run at (at + 1) change (0 + at) cell
  unfolding in_run
  one_changed at cell = grind (arith, nat_tests)

  one_more : (at k : ℕ) (cell : Cell) → first ≤ at → in_run at (at + 1) change k (in_run first at change k cell) ≡ in_run first (at + 1) change k cell
  unfolding in_run
  one_more at k cell from = grind (arith, nat_tests)

  -- one more cell
  pub in_run-more : (cells now : List Cell) (at : ℕ) (d new : Cell) → first ≤ at → at < length now
      → now ≡ changed_from (in_run first at change) 0 cells → new ≡ change (get_or now at d)
      → set now at new ≡ changed_from (in_run first (at + 1) change) 0 cells
  in_run-more cells now at d new from inside so_far is =
      set-changed_from (in_run at (at + 1) change) 0 now at d new inside (is ∙ one_changed at (get_or now at d)) (one_kept at)
      ∙ ap (λ (l : List Cell). changed_from (in_run at (at + 1) change) 0 l) so_far
      ∙ changed_from-twice (in_run first at change) (in_run at (at + 1) change) 0 cells
      ∙ changed_from-same (λ k cell. in_run at (at + 1) change k (in_run first at change k cell)) (in_run first (at + 1) change) 0 cells (λ k cell low high. one_more at k cell from)

-- two changes that are the same
pub in_run-same : (first until : ℕ) (f g : Cell → Cell) (cells : List Cell) → ((cell : Cell) → f cell ≡ g cell)
    → changed_from (in_run first until f) 0 cells ≡ changed_from (in_run first until g) 0 cells
unfolding in_run
in_run-same first until f g cells same =
    changed_from-same (in_run first until f) (in_run first until g) 0 cells
    (λ k cell low high. ap (λ (c : Cell). cond (nat_le first k && nat_lt k until) c cell) (same cell))

-- tests of numbers that are both raised
leb-shifted : (start a b : ℕ) → leb (start + a) (start + b) ≡ leb a b
leb-shifted start a b =
    elim (cases_lt b a) [
      | inl less ↦ lt-leb (start + a) (start + b) (omega arith) ∙ sym (lt-leb a b less)
      | inr most ↦ le-leb (start + a) (start + b) (omega arith) ∙ sym (le-leb a b most)
    ]

ltb-shifted : (start a b : ℕ) → ltb (start + a) (start + b) ≡ ltb a b
ltb-shifted start a b =
    elim (cases_lt a b) [
      | inl less ↦ lt-ltb (start + a) (start + b) (omega arith) ∙ sym (lt-ltb a b less)
      | inr most ↦ le-ltb (start + a) (start + b) (omega arith) ∙ sym (le-ltb a b most)
    ]

-- one more row, at a cell: by whether the cell is in the run, its column is in the area, its row is above the bottom, before this row, and before the next
module _ (change : Cell → Cell) (cell : Cell) (in_run_too across above_bottom before after : Bool) where
  run_elsewhere : in_run_too ≡ false → before ≡ after
      → cond in_run_too (change (cond (across && (above_bottom && before)) (change cell) cell)) (cond (across && (above_bottom && before)) (change cell) cell)
      ≡ cond (across && (above_bottom && after)) (change cell) cell
  run_elsewhere out same =
      ap (λ (t : Bool). cond t (change (cond (across && (above_bottom && before)) (change cell) cell)) (cond (across && (above_bottom && before)) (change cell) cell)) out
      ∙ ap (λ (t : Bool). cond (across && (above_bottom && t)) (change cell) cell) same

  in_row : (a : Bool) → cond a (change (cond (a && (true && false)) (change cell) cell)) (cond (a && (true && false)) (change cell) cell) ≡ cond (a && (true && true)) (change cell) cell
  in_row true = refl
  in_row false = refl

  run_there : in_run_too ≡ across → above_bottom ≡ true → before ≡ false → after ≡ true
      → cond in_run_too (change (cond (across && (above_bottom && before)) (change cell) cell)) (cond (across && (above_bottom && before)) (change cell) cell)
      ≡ cond (across && (above_bottom && after)) (change cell) cell
  run_there there above not_yet now =
      ap (λ (t : Bool). cond t (change (cond (across && (above_bottom && before)) (change cell) cell)) (cond (across && (above_bottom && before)) (change cell) cell)) there
      ∙ ap (λ (t : Bool). cond across (change (cond (across && (t && before)) (change cell) cell)) (cond (across && (t && before)) (change cell) cell)) above
      ∙ ap (λ (t : Bool). cond across (change (cond (across && (true && t)) (change cell) cell)) (cond (across && (true && t)) (change cell) cell)) not_yet
      ∙ in_row across
      ∙ sym (ap (λ (t : Bool). cond (across && (t && after)) (change cell) cell) above ∙ ap (λ (t : Bool). cond (across && (true && t)) (change cell) cell) now)

-- the same area up to a row
abbrev pub up_to : Area → ℕ → Area
up_to area row = record area { top = row }

module _ (area : Area) (change : Cell → Cell) (width : ℕ) where
  no_row : (k : ℕ) (cell : Cell) → in_area (up_to area area.bottom) change width k cell ≡ cell
  unfolding in_area is_in_area
  no_row k cell =
      let row = k / width in
      let none : (leb area.bottom row && ltb row area.bottom) ≡ false =
      elim (cases_lt row area.bottom) [
        | inl below ↦ and_left (leb area.bottom row) (ltb row area.bottom) (lt-leb area.bottom row below)
        | inr above ↦ and_right (leb area.bottom row) (ltb row area.bottom) (le-ltb row area.bottom above)
      ] in
      ap (λ (t : Bool). cond t (change cell) cell)
      (and_right (leb area.left (k % width) && ltb (k % width) area.right) (leb area.bottom row && ltb row area.bottom) none)

  -- no row yet
  pub in_area-none : (cells : List Cell) → cells ≡ changed_from (in_area (up_to area area.bottom) change width) 0 cells
  in_area-none cells = changed_from-kept (in_area (up_to area area.bottom) change width) 0 cells (λ at cell from to. no_row at cell)

  module _ (row : ℕ) (some : 0 < width) (in_width : area.right ≤ width) where
    -- where a cell stands by its row: below a row, in it, or above it
    stands : (k : ℕ) → ((k / width < row) × (k < row * width)) ⊎ (((k / width ≡ row) × (k ≡ row * width + k % width)) ⊎ ((row < k / width) × (row * width + width ≤ k)))
    stands k =
        let whole : k / width * width + k % width ≡ k = div-add-mod' k width in
        let part : k % width < width = mod_below k width some in
        elim (cases_order (k / width) row) [
          | inl same ↦ inr (inl (same, sym whole ∙ ap (λ (q : ℕ). q * width + k % width) same))
          | inr other ↦ elim other [
            | inl below ↦ inl (below, omega (arith, suc-mul (k / width) width, mul-le-mul_right {m = suc (k / width)} {n = row} width (omega arith)))
            | inr above ↦ inr (inr (above, omega (arith, suc-mul row width, mul-le-mul_right {m = suc row} {n = k / width} width (omega arith))))
          ]
        ]

    row_changed : (k : ℕ) (cell : Cell) → area.bottom ≤ row
        → in_run (row * width + area.left) (row * width + area.right) change k (in_area (up_to area row) change width k cell) ≡ in_area (up_to area (row + 1)) change width k cell
    unfolding in_run in_area is_in_area
    row_changed k cell from =
        let start = row * width in
        let column = k % width in
        let at = k / width in
        let low = leb (start + area.left) k in
        let high = ltb k (start + area.right) in
        let across = leb area.left column && ltb column area.right in
        let above_bottom = leb area.bottom at in
        elim (stands k) [
          | inl below ↦
              run_elsewhere change cell (low && high) across above_bottom (ltb at row) (ltb at (row + 1)) (and_left low high (lt-leb (start + area.left) k (omega arith)))
              (lt-ltb at row (below.0) ∙ sym (lt-ltb at (row + 1) (omega arith)))
          | inr other ↦ elim other [
            | inl same ↦
                run_there change cell (low && high) across above_bottom (ltb at row) (ltb at (row + 1)) (
                ap (λ (n : ℕ). leb (start + area.left) n && ltb n (start + area.right)) (same.1)
                ∙ ap (λ (t : Bool). t && ltb (start + column) (start + area.right)) (leb-shifted start area.left column)
                ∙ ap (λ (t : Bool). leb area.left column && t) (ltb-shifted start column area.right)
                ) (le-leb area.bottom at (omega arith)) (le-ltb at row (omega arith)) (lt-ltb at (row + 1) (omega arith))
            | inr above ↦
                run_elsewhere change cell (low && high) across above_bottom (ltb at row) (ltb at (row + 1)) (and_right low high (le-ltb k (start + area.right) (omega arith)))
                (le-ltb at row (omega arith) ∙ sym (le-ltb at (row + 1) (omega arith)))
          ]
        ]

    -- one more row
    pub in_area-more : (cells now after : List Cell) → area.bottom ≤ row
        → now ≡ changed_from (in_area (up_to area row) change width) 0 cells
        → after ≡ changed_from (in_run (row * width + area.left) (row * width + area.right) change) 0 now
        → after ≡ changed_from (in_area (up_to area (row + 1)) change width) 0 cells
    in_area-more cells now after from so_far is =
        let run = in_run (row * width + area.left) (row * width + area.right) change in
        is
        ∙ ap (λ (l : List Cell). changed_from run 0 l) so_far
        ∙ changed_from-twice (in_area (up_to area row) change width) run 0 cells
        ∙ changed_from-same (λ k cell. run k (in_area (up_to area row) change width k cell)) (in_area (up_to area (row + 1)) change width) 0 cells (λ k cell low high. row_changed k cell from)
