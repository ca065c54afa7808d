-- What a row loses where columns that aren't covered are left out: nothing.
use Rattle.std.proofs.Common.{◌≡◌, ◌≢◌, ℕ, zero, suc, ◌+◌, ◌-◌, ◌<◌, Bool, true, false, ℤ, pos, ◌+ℤ◌, ◌-ℤ◌, ◌≤ℤ◌, ◌<ℤ◌, ◌↔◌, unsigned_abs, List, [], Option, refl, sym, ap, subst, ◌∙◌, arith}
use Rattle.std.specs.List.{cons_option}
use Rattle.std.proofs.lemmas.Int.{ints}
use Rattle.triangle_raster.specs.declared.vertex.Vertex.{Vertex}
use Rattle.triangle_raster.specs.declared.vertex.View.{View}
use Rattle.triangle_raster.specs.declared.fragment.Fragment.{Fragment}
use Rattle.triangle_raster.specs.declared.shape.Shape.{Shape}
use Rattle.triangle_raster.specs.declared.span.Span.{Span}
use Rattle.triangle_raster.specs.declared.sums.Sums.{Sums}
use Rattle.triangle_raster.specs.Pixel.{delta_of, is_covered, pixel_of, weights_of}
use Rattle.triangle_raster.specs.Row.{numbers_from, pixels_at}
use Rattle.triangle_raster.specs.Held.{AreSumsAt, IsCoveredAmong, IsIn, IsShape, IsSpan}
use Rattle.triangle_raster.proofs.Fragments.{pixel_of-not_covered}

not_true : (b : Bool) → (b ≡ true → b ≡ false) → b ≡ false
not_true true h = h refl
not_true false h = refl

module _ (corners : List Vertex) (view : View) (y : ℤ) where
  -- columns that are what they were
  pub same_columns : (x x' : ℤ) (m m' : ℕ) → x ≡ x' → m ≡ m' → pixels_at corners view y (numbers_from x m) ≡ pixels_at corners view y (numbers_from x' m')
  same_columns x x' m m' e h =
      ap (λ (z : ℤ). pixels_at corners view y (numbers_from z m)) e ∙ ap (λ (k : ℕ). pixels_at corners view y (numbers_from x' k)) h

  same_cover : (x x' : ℤ) (b : Bool) → x ≡ x' → is_covered corners view x y ≡ b → is_covered corners view x' y ≡ b
  same_cover x x' b e h = subst (λ (z : ℤ). is_covered corners view z y ≡ b) e h

  abbrev NoneOf : ℤ → ℕ → Type 0
  NoneOf x n = (k : ℕ) → k < n → is_covered corners view (x +ℤ pos k) y ≡ false

  first_of : (x : ℤ) (n : ℕ) → NoneOf x (suc n) → is_covered corners view x y ≡ false
  first_of x n h = same_cover (x +ℤ pos 0) x false (omega (arith, ints)) (h 0 (omega arith))

  rest_of : (x : ℤ) (n : ℕ) → NoneOf x (suc n) → NoneOf (x +ℤ pos 1) n
  rest_of x n h = λ k below. same_cover (x +ℤ pos (suc k)) ((x +ℤ pos 1) +ℤ pos k) false (omega (arith, ints)) (h (suc k) (omega arith))

  next_column : (x : ℤ) (n : ℕ) → pixels_at corners view y (numbers_from x (suc n)) ≡ cons_option (pixel_of corners view x y) (pixels_at corners view y (numbers_from (x +ℤ pos 1) n))
  next_column x n = refl

  module _ (not_flat : delta_of corners view ≢ pos 0) where
    skipped : (x : ℤ) (n : ℕ) → is_covered corners view x y ≡ false → pixels_at corners view y (numbers_from x (suc n)) ≡ pixels_at corners view y (numbers_from (x +ℤ pos 1) n)
    skipped x n e =
        next_column x n
        ∙ ap (λ (o : Option Fragment). cons_option o (pixels_at corners view y (numbers_from (x +ℤ pos 1) n))) (pixel_of-not_covered corners view x y not_flat e)

    none_covered : (x : ℤ) (n : ℕ) → NoneOf x n → pixels_at corners view y (numbers_from x n) ≡ []
    none_covered x zero h = refl
    none_covered x (suc n) h = skipped x n (first_of x n h) ∙ none_covered (x +ℤ pos 1) n (rest_of x n h)

    -- columns before the covered ones
    pub none_before : (x : ℤ) (m n : ℕ) → NoneOf x m → pixels_at corners view y (numbers_from x (m + n)) ≡ pixels_at corners view y (numbers_from (x +ℤ pos m) n)
    none_before x zero n h = same_columns x (x +ℤ pos 0) (0 + n) n (omega (arith, ints)) (omega arith)
    none_before x (suc m) n h =
        same_columns x x (suc m + n) (suc (m + n)) refl (omega arith)
        ∙ skipped x (m + n) (first_of x m h)
        ∙ none_before (x +ℤ pos 1) m n (rest_of x m h)
        ∙ same_columns ((x +ℤ pos 1) +ℤ pos m) (x +ℤ pos (suc m)) n n (omega (arith, ints)) refl

    -- columns after them
    pub none_after : (x : ℤ) (m n : ℕ) → NoneOf (x +ℤ pos m) n → pixels_at corners view y (numbers_from x (m + n)) ≡ pixels_at corners view y (numbers_from x m)
    none_after x zero n h =
        same_columns x (x +ℤ pos 0) (0 + n) n (omega (arith, ints)) (omega arith) ∙ none_covered (x +ℤ pos 0) n h
    none_after x (suc m) n h =
        same_columns x x (suc m + n) (suc (m + n)) refl (omega arith)
        ∙ next_column x (m + n)
        ∙ ap (λ (fs : List Fragment). cons_option (pixel_of corners view x y) fs)
        (none_after (x +ℤ pos 1) m n
        (λ k below. same_cover ((x +ℤ pos (suc m)) +ℤ pos k) (((x +ℤ pos 1) +ℤ pos m) +ℤ pos k) false (omega (arith, ints)) (h k below)))
        ∙ sym (next_column x m)

-- the span of the covered columns
module _ (s : Shape) (shape : IsShape s) (x y : ℤ) (count : ℕ) (span : Span) (is : IsSpan span) (end : span.to ≤ℤ pos count) (exact : (k : ℤ) → IsIn span k ↔ IsCoveredAmong s x y count k) where
  out_of_span : (k : ℕ) → k < count → (IsIn span (pos k) → k < k) → is_covered s.corners s.view (x +ℤ pos k) y ≡ false
  out_of_span k below out =
      not_true _ (λ t. let wrong : k < k = out ((exact (pos k)).1 (omega (arith, ints), omega (arith, ints), t)) in absurd (omega arith))

  pub covered_in_span : (x' : ℤ) (m : ℕ) → x' ≡ x +ℤ span.from → pos m ≡ span.to -ℤ span.from → (k : ℕ) → k < m → is_covered s.corners s.view (x' +ℤ pos k) y ≡ true
  covered_in_span x' m at size k below =
      let starts : pos 0 ≤ℤ span.from = is.starts in
      let place : x +ℤ (span.from +ℤ pos k) ≡ x' +ℤ pos k = omega (arith, ints) in
      subst (λ (z : ℤ). is_covered s.corners s.view z y ≡ true) place ((exact (span.from +ℤ pos k)).0 (omega (arith, ints), omega (arith, ints))).2

  pub pixels_in_span : (x' : ℤ) (m : ℕ) → x' ≡ x +ℤ span.from → pos m ≡ span.to -ℤ span.from → pixels_at s.corners s.view y (numbers_from x' m) ≡ pixels_at s.corners s.view y (numbers_from x count)
  pixels_in_span x' m at size =
      let starts : pos 0 ≤ℤ span.from = is.starts in
      let order : span.from ≤ℤ span.to = is.in_order in
      let before : ℕ = unsigned_abs span.from in
      let after : ℕ = count - (before + m) in
      let from_is : pos before ≡ span.from = omega (arith, ints) in
      let to_is : pos (before + m) ≡ span.to = omega (arith, ints) in
      let all : count ≡ before + (m + after) = omega (arith, ints) in
      sym
      (same_columns s.corners s.view y x x count (before + (m + after)) refl all
      ∙ none_before s.corners s.view y shape.not_flat x before (m + after)
      (λ k below. out_of_span k (omega arith) (λ inside. let low : span.from ≤ℤ pos k = inside.0 in omega (arith, ints)))
      ∙ none_after s.corners s.view y shape.not_flat (x +ℤ pos before) m after
      (λ k below.
      subst (λ (z : ℤ). is_covered s.corners s.view z y ≡ false)
      (let same : x +ℤ pos (before + m + k) ≡ ((x +ℤ pos before) +ℤ pos m) +ℤ pos k = omega (arith, ints) in same)
      (out_of_span (before + m + k) (omega arith) (λ inside. let high : pos (before + m + k) <ℤ span.to = inside.1 in omega (arith, ints))))
      ∙ same_columns s.corners s.view y (x +ℤ pos before) x' m m (omega (arith, ints)) refl)

-- sums at a place that was passed and is what it was
pub sums_kept : (s : Shape) (x y x' y' : ℤ) (sums : Sums) → AreSumsAt s x' y' sums → x' ≡ x → y' ≡ y → AreSumsAt s x y sums
sums_kept s x y x' y' sums h p q =
    h ∙ ap (λ (z : ℤ). weights_of s.corners s.view z y') p ∙ ap (λ (z : ℤ). weights_of s.corners s.view x z) q

-- and the columns of a span there
pub among_kept : (s : Shape) (span : Span) (count : ℕ) {x y x' y' : ℤ} → x' ≡ x → y' ≡ y → ((k : ℤ) → IsIn span k ↔ IsCoveredAmong s x' y' count k) → (k : ℤ) → IsIn span k ↔ IsCoveredAmong s x y count k
among_kept s span count {x} {y} {x'} {y'} p q h = λ k.
    subst (λ (z : ℤ). IsIn span k ↔ IsCoveredAmong s z y count k) p (subst (λ (z : ℤ). IsIn span k ↔ IsCoveredAmong s x' z count k) q (h k))
