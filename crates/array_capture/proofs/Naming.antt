-- What one index more makes of those before: the least and the greatest of them. The pieces for what they name, and then for the indices.
use Rattle.std.proofs.Common.{◌≡◌, ℕ, ◌+◌, true, List, [], ◌∷◌, ◌++◌, length, Option, Some, None, refl, sym, ap, ◌∙◌, arith}
use Rattle.std.specs.Prelude.{ℤ, min, max}
use Rattle.std.proofs.lemmas.Bool.{cond-true}
use Rattle.std.proofs.lemmas.List.FromFn.{map-range_with_len_more}
use Rattle.gl_memory.specs.declared.piece.Piece.{Piece}
use Rattle.gl_memory.specs.ClientMemory.{memory_of}
use Rattle.gl_memory.specs.Segment.{Segment}
use Rattle.gl_tracked.specs.declared.tracked.Tracked.{Tracked}
use Rattle.gl_tracked.specs.Count.{count_drawn}
use Rattle.gl_tracked.specs.Indices.{index_numbered, indices_at}
use Rattle.gl_tracked.specs.Ranges.{range_of_indices, takes_indices}
use Rattle.array_capture.specs.declared.elements.Ends.{Ends}
use Rattle.array_capture.specs.Pieces.{ends_of, part_before, greatest_of, least_of, parts_in, pieces_at, pieces_between, pieces_of_elements}
use Rattle.array_capture.proofs.Drawing.{range_appended}

least_of-more : (place other : ℕ) (places : List ℕ) → least_of place (places ++ other ∷ []) ≡ min (least_of place places) other
unfolding least_of
least_of-more place other [] = refl
least_of-more place other (next ∷ places) = omega (arith, least_of-more next other places)

greatest_of-more : (place other : ℕ) (places : List ℕ) → greatest_of place (places ++ other ∷ []) ≡ max (greatest_of place places) other
unfolding greatest_of
greatest_of-more place other [] = refl
greatest_of-more place other (next ∷ places) = omega (arith, greatest_of-more next other places)

-- the ends of some places, and those with one more
abbrev pub wider : Ends → ℕ → Ends
wider ends other = record { least = min ends.least other; greatest = max ends.greatest other }

pub ends_of-more : (ends : Ends) (places : List ℕ) (other : ℕ) → Some ends ≡ ends_of places → Some (wider ends other) ≡ ends_of (places ++ other ∷ [])
ends_of-more ends [] other is = absurd (cc)
ends_of-more ends (place ∷ places) other is =
    let found : ends ≡ record { least = least_of place places; greatest = greatest_of place places } = cc in
    let made : ℕ → ℕ → Option Ends = λ least greatest. Some (record { least = least; greatest = greatest }) in
    ap (λ (e : Ends). Some (wider e other)) found
    ∙ sym (ap (λ (least : ℕ). made least (max (greatest_of place places) other)) (least_of-more place other places))
    ∙ sym (ap (λ (greatest : ℕ). made (least_of place (places ++ other ∷ [])) greatest) (greatest_of-more place other places))

module _ (memory : List Segment) (kind place : ℕ) where
  pub indices_at-more : (count : ℕ) → indices_at memory kind place (count + 1) ≡ indices_at memory kind place count ++ index_numbered memory kind place count ∷ []
  unfolding indices_at
  indices_at-more count = map-range_with_len_more (index_numbered memory kind place) 0 count count (omega arith)

  -- one index is the least and the greatest
  pub ends_of-first : (index : ℕ) → index ≡ index_numbered memory kind place 0 → Some (record { least = index; greatest = index }) ≡ ends_of (indices_at memory kind place 1)
  unfolding indices_at least_of greatest_of
  ends_of-first index is = ap (λ (n : ℕ). Some (record { least = n; greatest = n })) is

  pub ends_of-none : None ≡ ends_of (indices_at memory kind place 0)
  unfolding indices_at
  ends_of-none = refl

  -- the ends of so many indices, and those with the next one
  pub ends_of-next : (ends : Ends) (count index : ℕ) → Some ends ≡ ends_of (indices_at memory kind place count) → index ≡ index_numbered memory kind place count
      → Some (wider ends index) ≡ ends_of (indices_at memory kind place (count + 1))
  ends_of-next ends count index so_far is =
      ap (λ (n : ℕ). Some (wider ends n)) is
      ∙ ends_of-more ends (indices_at memory kind place count) (index_numbered memory kind place count) so_far
      ∙ ap ends_of (sym (indices_at-more count))

-- the pieces for a draw by indices, where it takes them from memory: what is named, and what was pushed behind it
pub pieces_of_elements-pushed : (tracked : Tracked) (count : ℤ) (kind place : ℕ) (bytes : List ℕ) (drawn end : ℕ) (named new : List Piece) (pushed : Piece)
    → takes_indices tracked ≡ true → drawn ≡ count_drawn count → named ≡ pieces_at tracked (indices_at (memory_of bytes) kind place drawn) (memory_of bytes)
    → pushed ≡ range_of_indices kind place drawn → end ≡ length bytes → new ≡ named ++ part_before end pushed
    → new ≡ pieces_of_elements tracked count kind place (memory_of bytes)
unfolding pieces_of_elements
pieces_of_elements-pushed tracked count kind place bytes drawn end named new pushed takes is_drawn are is_range is_end is_new =
    let memory = memory_of bytes in
    let whole : ℕ → List Piece = λ n. pieces_at tracked (indices_at memory kind place n) memory ++ parts_in memory (range_of_indices kind place n ∷ []) in
    range_appended named new pushed (range_of_indices kind place drawn) end bytes is_range is_end is_new
    ∙ ap (λ (pieces : List Piece). pieces ++ parts_in memory (range_of_indices kind place drawn ∷ [])) are
    ∙ ap whole is_drawn
    ∙ sym (cond-true (takes_indices tracked) (whole (count_drawn count)) [] takes)

module _ (tracked : Tracked) (memory : List Segment) where
  -- the pieces for the elements at some places, by their ends
  pieces_at-ends : (places : List ℕ) (ends : Ends) → Some ends ≡ ends_of places → pieces_between tracked ends.least ends.greatest memory ≡ pieces_at tracked places memory
  unfolding pieces_at
  pieces_at-ends [] ends is = absurd (cc)
  pieces_at-ends (place ∷ places) ends is =
      let found : ends ≡ record { least = least_of place places; greatest = greatest_of place places } = cc in
      ap (λ (e : Ends). pieces_between tracked e.least e.greatest memory) found

  pieces_at-no_ends : (places : List ℕ) → None ≡ ends_of places → [] ≡ pieces_at tracked places memory
  unfolding pieces_at
  pieces_at-no_ends [] is = refl
  pieces_at-no_ends (place ∷ places) is = absurd (cc)

  -- the pieces for what these indices name, given their ends
  pub pieces_named-some : (found : Option Ends) (ends : Ends) (places : List ℕ) → found ≡ Some ends → found ≡ ends_of places
      → pieces_between tracked ends.least ends.greatest memory ≡ pieces_at tracked places memory
  pieces_named-some found ends places some are = pieces_at-ends places ends (sym some ∙ are)

  pub pieces_named-none : (found : Option Ends) (places : List ℕ) → found ≡ None → found ≡ ends_of places → [] ≡ pieces_at tracked places memory
  pieces_named-none found places none are = pieces_at-no_ends places (sym none ∙ are)
