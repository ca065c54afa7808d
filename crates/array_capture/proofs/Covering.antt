-- Each element that is drawn lies between the ends of its array's span, so what is left of the spans in memory covers what is read; and so does what is left of a range of bytes.
use Rattle.std.proofs.Common.{◌≡◌, ℕ, ◌+◌, ◌*◌, ◌<◌, ◌≤◌, Bool, true, false, cond, eqb, List, [], ◌∷◌, ◌++◌, map, refl, sym, subst, arith}
use Rattle.std.specs.Prelude.{ℤ, ◌-◌, min, max, All}
use Rattle.std.specs.List.{flat_map}
use Rattle.std.proofs.Math.Nat.{mul-le-mul_right}
use Rattle.std.proofs.lemmas.List.Elements.{All-nil, All-cons, All-append, All-map, All-weaker}
use Rattle.gl_memory.specs.declared.piece.Piece.{Piece}
use Rattle.gl_memory.specs.Piece.{LiesIn}
use Rattle.gl_memory.specs.Segment.{Segment}
use Rattle.gl_tracked.specs.declared.tracked.ArrayState.{ArrayState}
use Rattle.gl_tracked.specs.declared.tracked.Tracked.{Tracked}
use Rattle.gl_tracked.specs.Element.{element_at, element_bytes, step_over}
use Rattle.array_capture.specs.Law.{Cover, LiesInOne, Serve}
use Rattle.array_capture.specs.Pieces.{greatest_of, least_of, memory_end, part_before, parts_in, pieces_at, pieces_between, pieces_of_bytes, pieces_of_colour, pieces_of_data, pieces_of_draw, pieces_of_elements, pieces_of_image, pieces_of_matrix, pieces_of_names, pieces_of_subimage, span_of}
use Rattle.gl_tracked.specs.Count.{count_drawn}
use Rattle.gl_tracked.specs.Indices.{indices_at}
use Rattle.gl_tracked.specs.Ranges.{arrays_read, places_drawn, range_of_bytes, range_of_colour, range_of_image, range_of_indices, range_of_matrix, range_of_names, ranges_at, ranges_of_data, ranges_of_draw, ranges_of_elements, ranges_of_image, takes_indices}
use Rattle.array_capture.proofs.Parts.{cover-serve, lies_in_part, lies_left, lies_right}

-- a place of an array is one from the least to the greatest
record IsBetween (least greatest place : ℕ) : Type 0 where
  from : least ≤ place
  to : place ≤ greatest

between-wider : (least greatest more most place : ℕ) → more ≤ least → greatest ≤ most → IsBetween least greatest place → IsBetween more most place
between-wider least greatest more most place lower higher is = record { from = omega (arith, is.from, lower); to = omega (arith, is.to, higher) }

-- each of some places is one from the least of them to the greatest
places_between : (place : ℕ) (places : List ℕ) → All (IsBetween (least_of place places) (greatest_of place places)) (place ∷ places)
unfolding least_of greatest_of
places_between place [] = All-cons (IsBetween place place) place [] (record { from = omega arith; to = omega arith }) (All-nil (IsBetween place place))
places_between place (other ∷ others) =
    let least = least_of other others in
    let greatest = greatest_of other others in
    let low = min place least in
    let high = max place greatest in
    let first : IsBetween low high place = record { from = omega arith; to = omega arith } in
    All-cons (IsBetween low high) place (other ∷ others) first
    (All-weaker (IsBetween least greatest) (IsBetween low high) (λ p is. between-wider least greatest low high p (omega arith) (omega arith) is) (other ∷ others)
    (places_between other others))

-- elements stand in the order of their places
pub element_at-order : (array : ArrayState) (place other : ℕ) → place ≤ other → (element_at array place).start ≤ (element_at array other).start
unfolding element_at
element_at-order array place other order =
    let step = step_over array.stride (element_bytes array) in
    let steps : place * step ≤ other * step = mul-le-mul_right step order in
    let ordered : array.pointer + place * step ≤ array.pointer + other * step = omega (arith, steps) in
    ordered

-- an element lies in the span from one before it to one after it
lies_in_span : (array : ArrayState) (least greatest place at : ℕ) → IsBetween least greatest place → LiesIn at (element_at array place) → LiesIn at (span_of array least greatest)
unfolding span_of
lies_in_span array least greatest place at is lies =
    let first = element_at-order array least place is.from in
    let last = element_at-order array place greatest is.to in
    let same_length : (element_at array greatest).len ≡ (element_at array place).len = unfold element_at in refl in
    let start = (element_at array least).start in
    let end = (element_at array greatest).start + (element_at array greatest).len in
    let from : start ≤ at = omega (arith, first, lies.from) in
    let below : at < start + (end - start) = omega (arith, first, last, same_length, lies.from, lies.below) in
    record { from = from; below = below }

-- each place of a range before an end lies in one of some pieces
abbrev IsHeld : ℕ → List Piece → Piece → Type 0
IsHeld end pieces range = (place : ℕ) → LiesIn place range → place < end → LiesInOne place pieces

held_in_part : (end least greatest : ℕ) (array : ArrayState) (places : List ℕ) → All (IsBetween least greatest) places
    → All (IsHeld end (part_before end (span_of array least greatest))) (map (element_at array) places)
held_in_part end least greatest array places are =
    let part = part_before end (span_of array least greatest) in
    All-map (IsHeld end part) (element_at array) places
    (All-weaker (IsBetween least greatest) (λ p. IsHeld end part (element_at array p))
    (λ p is at lies within. lies_in_part end at (span_of array least greatest) (lies_in_span array least greatest p at is lies) within) places are)

held_in_parts : (end least greatest : ℕ) (arrays : List ArrayState) (places : List ℕ) → All (IsBetween least greatest) places
    → All (IsHeld end (flat_map (part_before end) (map (λ array. span_of array least greatest) arrays))) (flat_map (λ array. map (element_at array) places) arrays)
held_in_parts end least greatest [] places are = All-nil (IsHeld end [])
held_in_parts end least greatest (array ∷ arrays) places are =
    let part = part_before end (span_of array least greatest) in
    let parts = flat_map (part_before end) (map (λ array. span_of array least greatest) arrays) in
    let elements = map (element_at array) places in
    let others = flat_map (λ array. map (element_at array) places) arrays in
    All-append (IsHeld end (part ++ parts)) elements others
    (All-weaker (IsHeld end part) (IsHeld end (part ++ parts)) (λ range held place lies within. lies_left place part parts (held place lies within)) elements
    (held_in_part end least greatest array places are))
    (All-weaker (IsHeld end parts) (IsHeld end (part ++ parts)) (λ range held place lies within. lies_right place part parts (held place lies within)) others
    (held_in_parts end least greatest arrays places are))

none_read : (arrays : List ArrayState) → flat_map (λ array. map (element_at array) []) arrays ≡ []
none_read [] = refl
none_read (array ∷ arrays) = none_read arrays

-- the pieces for elements cover all that is read of them
pub pieces_at-cover : (tracked : Tracked) (places : List ℕ) (memory : List Segment) → Cover (pieces_at tracked places memory) memory (ranges_at tracked places)
unfolding pieces_at pieces_between parts_in ranges_at
pieces_at-cover tracked [] memory = subst (All (IsHeld (memory_end memory) [])) (sym (none_read (arrays_read tracked))) (All-nil (IsHeld (memory_end memory) []))
pieces_at-cover tracked (place ∷ places) memory =
    held_in_parts (memory_end memory) (least_of place places) (greatest_of place places) (arrays_read tracked) (place ∷ places) (places_between place places)

-- the pieces for a draw serve for what it reads
pub pieces_of_draw-serve : (tracked : Tracked) (first count : ℤ) (memory : List Segment) → Serve (pieces_of_draw tracked first count memory) memory (ranges_of_draw tracked first count)
unfolding pieces_of_draw ranges_of_draw
pieces_of_draw-serve tracked first count memory = cover-serve _ memory _ (pieces_at-cover tracked (places_drawn first count) memory)

-- what is left of one range covers it
range-cover : (range : Piece) (memory : List Segment) → Cover (parts_in memory (range ∷ [])) memory (range ∷ [])
unfolding parts_in
range-cover range memory =
    let end = memory_end memory in
    let part = part_before end range in
    All-cons (IsHeld end (part ++ [])) range [] (λ place lies within. lies_left place part [] (lies_in_part end place range lies within)) (All-nil (IsHeld end (part ++ [])))

-- the pieces for a matrix, for bytes, for names, for images and for colours serve for them
pub pieces_of_matrix-serve : (pointer : ℕ) (memory : List Segment) → Serve (pieces_of_matrix pointer memory) memory (range_of_matrix pointer ∷ [])
unfolding pieces_of_matrix
pieces_of_matrix-serve pointer memory = cover-serve _ memory _ (range-cover (range_of_matrix pointer) memory)

pub pieces_of_bytes-serve : (place : ℕ) (size : ℤ) (memory : List Segment) → Serve (pieces_of_bytes place size memory) memory (range_of_bytes place size ∷ [])
unfolding pieces_of_bytes
pieces_of_bytes-serve place size memory = cover-serve _ memory _ (range-cover (range_of_bytes place size) memory)

pub pieces_of_names-serve : (place : ℕ) (count : ℤ) (memory : List Segment) → Serve (pieces_of_names place count memory) memory (range_of_names place count ∷ [])
unfolding pieces_of_names
pieces_of_names-serve place count memory = cover-serve _ memory _ (range-cover (range_of_names place count) memory)

pub pieces_of_subimage-serve : (tracked : Tracked) (format : ℕ) (width height : ℤ) (place : ℕ) (memory : List Segment)
    → Serve (pieces_of_subimage tracked format width height place memory) memory (range_of_image tracked format width height place ∷ [])
unfolding pieces_of_subimage
pieces_of_subimage-serve tracked format width height place memory = cover-serve _ memory _ (range-cover (range_of_image tracked format width height place) memory)

pub pieces_of_colour-serve : (pointer : ℕ) (memory : List Segment) → Serve (pieces_of_colour pointer memory) memory (range_of_colour pointer ∷ [])
unfolding pieces_of_colour
pieces_of_colour-serve pointer memory = cover-serve _ memory _ (range-cover (range_of_colour pointer) memory)

-- what is left of a range, or of none, covers it
range_unless-cover : (none : Bool) (range : Piece) (memory : List Segment) → Cover (parts_in memory (cond none [] (range ∷ []))) memory (cond none [] (range ∷ []))
range_unless-cover true range memory = All-nil (IsHeld (memory_end memory) (parts_in memory []))
range_unless-cover false range memory = range-cover range memory

pub pieces_of_data-serve : (place : ℕ) (size : ℤ) (memory : List Segment) → Serve (pieces_of_data place size memory) memory (ranges_of_data place size)
unfolding pieces_of_data ranges_of_data
pieces_of_data-serve place size memory = cover-serve _ memory _ (range_unless-cover (eqb place 0) (range_of_bytes place size) memory)

pub pieces_of_image-serve : (tracked : Tracked) (format : ℕ) (width height : ℤ) (place : ℕ) (memory : List Segment)
    → Serve (pieces_of_image tracked format width height place memory) memory (ranges_of_image tracked format width height place)
unfolding pieces_of_image ranges_of_image
pieces_of_image-serve tracked format width height place memory =
    cover-serve _ memory _ (range_unless-cover (eqb place 0) (range_of_image tracked format width height place) memory)

-- pieces and more pieces cover what each of them covers
append-cover : (pieces more ranges others : List Piece) (memory : List Segment) → Cover pieces memory ranges → Cover more memory others → Cover (pieces ++ more) memory (ranges ++ others)
append-cover pieces more ranges others memory first second =
    let end = memory_end memory in
    All-append (IsHeld end (pieces ++ more)) ranges others
    (All-weaker (IsHeld end pieces) (IsHeld end (pieces ++ more)) (λ range held place lies within. lies_left place pieces more (held place lies within)) ranges first)
    (All-weaker (IsHeld end more) (IsHeld end (pieces ++ more)) (λ range held place lies within. lies_right place pieces more (held place lies within)) others second)

cover_where : (takes : Bool) (pieces ranges : List Piece) (memory : List Segment) → Cover pieces memory ranges → Cover (cond takes pieces []) memory (cond takes ranges [])
cover_where true pieces ranges memory covers = covers
cover_where false pieces ranges memory covers = All-nil (IsHeld (memory_end memory) [])

-- the pieces for a draw by indices serve for what it reads, the indices too
pub pieces_of_elements-serve : (tracked : Tracked) (count : ℤ) (kind place : ℕ) (memory : List Segment)
    → Serve (pieces_of_elements tracked count kind place memory) memory (ranges_of_elements tracked count kind place memory)
unfolding pieces_of_elements ranges_of_elements
pieces_of_elements-serve tracked count kind place memory =
    let places = indices_at memory kind place (count_drawn count) in
    let range = range_of_indices kind place (count_drawn count) in
    cover-serve _ memory _
    (cover_where (takes_indices tracked) (pieces_at tracked places memory ++ parts_in memory (range ∷ [])) (ranges_at tracked places ++ range ∷ []) memory
    (append-cover (pieces_at tracked places memory) (parts_in memory (range ∷ [])) (ranges_at tracked places) (range ∷ []) memory (pieces_at-cover tracked places memory) (range-cover range memory)))
