-- The area of the places that pass the scissor test.
use Rattle.std.proofs.Common.{◌≡◌, ℕ, ◌<◌, ◌≤◌, ℤ, pos, ◌+ℤ◌, ◌≤ℤ◌, Bool, true, false, ◌&&◌, cond, List, inl, inr, leb, ltb, refl, sym, ap, ◌∙◌, arith}
use Rattle.std.specs.Prelude.{int_le, int_lt, nat_lt}
use Rattle.std.proofs.lemmas.Bool.{cases_lt, le-leb, le-ltb, lt-ltb}
use Rattle.std.proofs.lemmas.Int.{ints}
use Rattle.fragment_ops.specs.declared.area.Area.{Area}
use Rattle.fragment_ops.specs.declared.place.Place.{Place}
use Rattle.fragment_ops.specs.declared.state.FragmentState.{FragmentState}
use Rattle.fragment_ops.specs.Cell.{is_within, passes_scissor}
use Rattle.fragment_ops.specs.Rows.{is_in_area}
use Rattle.fragment_ops.specs.State.{number_at}

abbrev placed : ℕ → ℕ → Place
placed column row = record { column = column; row = row }

module _ (state : FragmentState) where
  -- where the test is enabled, it is that of the rectangle
  pub passes_scissor-on : (column row : ℕ) → state.scissor_on ≡ true → is_within state.scissor (placed column row) ≡ passes_scissor state (placed column row)
  passes_scissor-on column row on = sym (ap (λ (t : Bool). cond t (is_within state.scissor (placed column row)) true) on)

  -- where it is disabled, each place of the frame passes it
  pub passes_scissor-off : (width height column row : ℕ) → column < width → row < height → state.scissor_on ≡ false
      → is_in_area (record { left = 0; right = width; bottom = 0; top = height }) (placed column row) ≡ passes_scissor state (placed column row)
  unfolding is_in_area
  passes_scissor-off width height column row in_width in_height off =
      ap (λ (t : Bool). (t && ltb column width) && (leb 0 row && ltb row height)) (le-leb 0 column (omega arith))
      ∙ ap (λ (t : Bool). t && (leb 0 row && ltb row height)) (lt-ltb column width in_width)
      ∙ ap (λ (t : Bool). t && ltb row height) (le-leb 0 row (omega arith))
      ∙ lt-ltb row height in_height
      ∙ sym (ap (λ (t : Bool). cond t (is_within state.scissor (placed column row)) true) off)

clash : (n : ℕ) (x y : ℤ) → x ≤ℤ y → int_lt (pos n) x ≡ true → int_lt (pos n) y ≡ false → ⊥
clash n x y most less not_less = grind (arith, ints)

-- of two numbers that are cut to lie between zero and a bound, the lesser stays the lesser
pub cut_in_order : (first until most : ℕ) (x y : ℤ) → x ≤ℤ y → first ≤ most
    → ((at : ℕ) → at < most → nat_lt at first ≡ int_lt (pos at) x) → ((at : ℕ) → at < most → nat_lt at until ≡ int_lt (pos at) y) → first ≤ until
cut_in_order first until most x y order few before_first before_until =
    elim (cases_lt until first) [
      | inl less ↦
          let in_most : until < most = omega arith in
          let below : int_lt (pos until) x ≡ true = sym (before_first until in_most) ∙ lt-ltb until first less in
          let not_below : int_lt (pos until) y ≡ false = sym (before_until until in_most) ∙ le-ltb until until (omega arith) in
          absurd (clash until x y order below not_below)
      | inr ordered ↦ ordered
    ]

-- an area with the sides of two spans, each cut from a side of a rectangle, has the places of the rectangle
pub is_in_area-cut : (area : Area) (rectangle : List ℤ) (column row : ℕ)
    → leb area.left column ≡ int_le (number_at rectangle 0) (pos column) → ltb column area.right ≡ int_lt (pos column) (number_at rectangle 0 +ℤ number_at rectangle 2)
    → leb area.bottom row ≡ int_le (number_at rectangle 1) (pos row) → ltb row area.top ≡ int_lt (pos row) (number_at rectangle 1 +ℤ number_at rectangle 3)
    → is_in_area area (placed column row) ≡ is_within rectangle (placed column row)
unfolding is_in_area is_within
is_in_area-cut area rectangle column row left right bottom top =
    ap (λ (t : Bool). (t && ltb column area.right) && (leb area.bottom row && ltb row area.top)) left
    ∙ ap (λ (t : Bool). (int_le (number_at rectangle 0) (pos column) && t) && (leb area.bottom row && ltb row area.top)) right
    ∙ ap (λ (t : Bool). (int_le (number_at rectangle 0) (pos column) && int_lt (pos column) (number_at rectangle 0 +ℤ number_at rectangle 2)) && (t && ltb row area.top)) bottom
    ∙ ap (λ (t : Bool). (int_le (number_at rectangle 0) (pos column) && int_lt (pos column) (number_at rectangle 0 +ℤ number_at rectangle 2)) && (int_le (number_at rectangle 1) (pos row) && t)) top

swapped : (a b c d : Bool) → ((a && b) && (c && d)) ≡ ((a && c) && (b && d))
swapped true true c d = refl
swapped true false true d = refl
swapped true false false d = refl
swapped false b c d = refl

-- an area with the numbers that the sides of two areas share has the places that lie in both
pub is_in_area-both : (area one other : Area) (column row : ℕ)
    → (leb area.left column && ltb column area.right) ≡ ((leb one.left column && ltb column one.right) && (leb other.left column && ltb column other.right))
    → (leb area.bottom row && ltb row area.top) ≡ ((leb one.bottom row && ltb row one.top) && (leb other.bottom row && ltb row other.top))
    → is_in_area area (placed column row) ≡ (is_in_area one (placed column row) && is_in_area other (placed column row))
unfolding is_in_area
is_in_area-both area one other column row across upwards =
    ap (λ (t : Bool). t && (leb area.bottom row && ltb row area.top)) across
    ∙ ap (λ (t : Bool). ((leb one.left column && ltb column one.right) && (leb other.left column && ltb column other.right)) && t) upwards
    ∙ swapped (leb one.left column && ltb column one.right) (leb other.left column && ltb column other.right)
    (leb one.bottom row && ltb row one.top) (leb other.bottom row && ltb row other.top)
