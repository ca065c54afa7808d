-- A draw is the same on memories that agree where its vertices are read.
use Rattle.std.proofs.Common.{◌≡◌, ℕ, zero, suc, ◌+◌, ◌%◌, ◌<◌, ◌≤◌, Bool, true, false, eqb, cond, List, refl, sym, ap, subst, ◌∙◌, inl, inr, arith}
use Rattle.std.proofs.lemmas.Bool.{cases_eq, cond_both, cond-false, ne_eqb}
use Rattle.gl_memory.specs.Segment.{Segment}
use Rattle.triangle_raster.specs.declared.vertex.Vertex.{Vertex}
use Rattle.fragment_ops.specs.declared.cell.Cell.{Cell}
use Rattle.fragment_ops.specs.declared.place.Place.{Place}
use Rattle.vertex_stage.specs.declared.triangles.Triple.{Triple}
use Rattle.vertex_stage.specs.Triangles.{strip_triangle, triangle_at, triangle_count}
use Rattle.vertex_stage.specs.Vertex.{AgreeAt, corners_of}
use Rattle.vertex_stage.proofs.Agreement.{corners_of-same}
use Rattle.triangle_draw.specs.declared.drawing.Drawing.{Drawing}
use Rattle.triangle_draw.specs.Draw.{cell_after_draw, cell_after_triangles, corners_at}
use Rattle.triangle_draw.specs.Law.{DrawsAlike}
use Rattle.triangle_draw.specs.Triangle.{cell_after_triangle}

-- the vertices of a triangle are among those drawn
record LiesBelow (count : ℕ) (triangle : Triple) : Type 0 where
  first : triangle.first < count
  second : triangle.second < count
  third : triangle.third < count

strip_lies : (count number : ℕ) → number + 2 < count → LiesBelow count (strip_triangle number)
strip_lies count number below =
    cond_both (eqb (number % 2) 0) _ _ (LiesBelow count)
    (λ _. record { first = omega arith; second = omega arith; third = omega arith })
    (λ _. record { first = omega arith; second = omega arith; third = omega arith })

-- what is shown of a mode is shown of this one
abbrev LieBelow : ℕ → ℕ → ℕ → Type 0
LieBelow count number mode = number < triangle_count mode count → LiesBelow count (triangle_at mode number)

in_threes : (count number : ℕ) → LieBelow count number 4
unfolding triangle_at triangle_count
in_threes count number below = record { first = omega arith; second = omega arith; third = omega arith }

in_strips : (count number : ℕ) → LieBelow count number 5
unfolding triangle_at triangle_count
in_strips count number below = strip_lies count number (omega arith)

in_fans : (count number : ℕ) → LieBelow count number 6
unfolding triangle_at triangle_count
in_fans count number below = record { first = omega arith; second = omega arith; third = omega arith }

no_triangles : (mode count : ℕ) → (mode ≡ 4 → ⊥) → (mode ≡ 5 → ⊥) → (mode ≡ 6 → ⊥) → triangle_count mode count ≡ 0
unfolding triangle_count
no_triangles mode count four five six =
    cond-false (eqb mode 4) _ _ (ne_eqb mode 4 four) ∙ cond-false (eqb mode 5) _ _ (ne_eqb mode 5 five) ∙ cond-false (eqb mode 6) _ _ (ne_eqb mode 6 six)

triangle_lies : (mode count number : ℕ) → LieBelow count number mode
triangle_lies mode count number =
    elim (cases_eq mode 4) [
      | inl four ↦ subst (LieBelow count number) (sym four) (in_threes count number)
      | inr not_four ↦ elim (cases_eq mode 5) [
        | inl five ↦ subst (LieBelow count number) (sym five) (in_strips count number)
        | inr not_five ↦ elim (cases_eq mode 6) [
          | inl six ↦ subst (LieBelow count number) (sym six) (in_fans count number)
          | inr not_six ↦ λ below. absurd (omega (arith, no_triangles mode count not_four not_five not_six))
        ]
      ]
    ]

module _ (drawing : Drawing) (m n : ℕ → List Segment) (mode : ℕ) (at other : ℕ → ℕ) (count : ℕ)
    (agree : (number : ℕ) → number < count → (at number ≡ other number) × AgreeAt drawing.stage m n (at number)) (place : Place) (old : Cell) where
  -- the corners of a triangle, all of which are drawn
  corners_at_same : (triangle : Triple) → LiesBelow count triangle
      → corners_of drawing.stage m (at triangle.first) (at triangle.second) (at triangle.third) ≡ corners_of drawing.stage n (other triangle.first) (other triangle.second) (other triangle.third)
  corners_at_same triangle lies =
      let first = agree triangle.first lies.first in
      let second = agree triangle.second lies.second in
      let third = agree triangle.third lies.third in
      corners_of-same m n drawing.stage (at triangle.first) (at triangle.second) (at triangle.third) (first.1) (second.1) (third.1)
      ∙ ap (λ (p : ℕ). corners_of drawing.stage n p (at triangle.second) (at triangle.third)) (first.0)
      ∙ ap (λ (p : ℕ). corners_of drawing.stage n (other triangle.first) p (at triangle.third)) (second.0)
      ∙ ap (corners_of drawing.stage n (other triangle.first) (other triangle.second)) (third.0)

  corners_same : (number : ℕ) → number < triangle_count mode count → corners_at drawing m mode at number ≡ corners_at drawing n mode other number
  unfolding corners_at
  corners_same number below = corners_at_same (triangle_at mode number) (triangle_lies mode count number below)

  triangles_same : (number : ℕ) → number ≤ triangle_count mode count
      → cell_after_triangles drawing m mode at number place old ≡ cell_after_triangles drawing n mode other number place old
  unfolding cell_after_triangles
  triangles_same zero few = refl
  triangles_same (suc number) few =
      ap (λ (corners : List Vertex). cell_after_triangle drawing corners place (cell_after_triangles drawing m mode at number place old)) (corners_same number (omega arith))
      ∙ ap (cell_after_triangle drawing (corners_at drawing n mode other number) place) (triangles_same number (omega arith))

by_enabled : (enabled : Bool) (one other old : Cell) → (enabled ≡ true → one ≡ other) → cond enabled one old ≡ cond enabled other old
by_enabled true one other old same = same refl
by_enabled false one other old same = refl

-- where two draws take elements at the same places, and memories agree there, they make the same of each cell
pub draws_alike : (drawing : Drawing) (m n : ℕ → List Segment) (mode : ℕ) (at other : ℕ → ℕ) (count : ℕ) → DrawsAlike drawing m n mode at other count
unfolding cell_after_draw
draws_alike drawing m n mode at other count agree place old =
    by_enabled drawing.stage.vertex.enabled _ _ old (λ on. triangles_same drawing m n mode at other count (agree on) place old (triangle_count mode count) (omega arith))
