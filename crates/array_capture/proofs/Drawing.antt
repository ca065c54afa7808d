-- What the code finds of a draw is what the definitions say: where it begins and ends, and a piece for each array. The piece of a matrix is at the end.
use Rattle.std.proofs.Common.{◌≡◌, ℕ, zero, suc, ◌+◌, ◌<◌, ℤ, pos, negsuc, ◌<ℤ◌, Bool, true, false, cond, List, [], ◌∷◌, ◌++◌, length, map, get_or, take, refl, sym, ap, ◌∙◌, arith}
use Rattle.std.specs.Prelude.{nat_le}
use Rattle.std.specs.List.{filter, flat_map, range_with_len}
use Rattle.std.proofs.lemmas.Bool.{cond-false, cond-true, le-leb, lt-leb}
use Rattle.std.proofs.lemmas.Int.{ints}
use Rattle.std.proofs.lemmas.List.{append-nil, flat_map_more, take_more}
use Rattle.std.proofs.lemmas.List.Folds.{flat_map-map}
use Rattle.gl_memory.specs.declared.piece.Piece.{Piece}
use Rattle.gl_memory.specs.ClientMemory.{memory_of}
use Rattle.gl_memory.specs.Segment.{Segment}
use Rattle.gl_tracked.specs.declared.tracked.ArrayState.{ArrayState}
use Rattle.gl_tracked.specs.declared.tracked.Tracked.{Tracked}
use Rattle.gl_tracked.specs.Element.{arrays_in_order}
use Rattle.array_capture.specs.Pieces.{greatest_of, least_of, memory_end, part_before, parts_in, pieces_at, pieces_between, pieces_of_draw, span_of}
use Rattle.gl_tracked.specs.Ranges.{arrays_read, is_client, places_drawn}
use Rattle.array_capture.proofs.Parts.{memory_end-memory_of}

least_of-range : (place more : ℕ) → least_of place (range_with_len (place + 1) more) ≡ place
unfolding least_of
least_of-range place zero = refl
least_of-range place (suc more) = omega (arith, least_of-range (place + 1) more)

greatest_of-range : (place more : ℕ) → greatest_of place (range_with_len (place + 1) more) ≡ place + more
unfolding greatest_of
greatest_of-range place zero = omega arith
greatest_of-range place (suc more) = omega (arith, greatest_of-range (place + 1) more)

places_drawn-some : (first more : ℕ) → more < 65536 → places_drawn (pos first) (pos (suc more)) ≡ first ∷ range_with_len (first + 1) more
unfolding places_drawn
places_drawn-some first more few = cond-true (nat_le (suc more) 65536) _ _ (le-leb (suc more) 65536 (omega arith))

-- a draw without an error, of an element more than so many, reads from its first place to the place so many behind it
pieces_of_draw-places : (tracked : Tracked) (first more : ℕ) (memory : List Segment) → more < 65536
    → pieces_of_draw tracked (pos first) (pos (suc more)) memory ≡ pieces_between tracked first (first + more) memory
unfolding pieces_of_draw pieces_at
pieces_of_draw-places tracked first more memory few =
    ap (λ (places : List ℕ). pieces_at tracked places memory) (places_drawn-some first more few)
    ∙ ap (λ (least : ℕ). pieces_between tracked least (greatest_of first (range_with_len (first + 1) more)) memory) (least_of-range first more)
    ∙ ap (λ (greatest : ℕ). pieces_between tracked first greatest memory) (greatest_of-range first more)

pub pieces_of_draw-some : (tracked : Tracked) (first count : ℤ) (least more : ℕ) (memory : List Segment) → first ≡ pos least → count ≡ pos (suc more) → more < 65536
    → pieces_of_draw tracked first count memory ≡ pieces_between tracked least (least + more) memory
pieces_of_draw-some tracked first count least more memory at number few =
    ap (λ (f : ℤ). pieces_of_draw tracked f count memory) at
    ∙ ap (λ (n : ℤ). pieces_of_draw tracked (pos least) n memory) number
    ∙ pieces_of_draw-places tracked least more memory few

module _ (tracked : Tracked) (memory : List Segment) where
  pieces_of_draw-none : (first count : ℤ) → places_drawn first count ≡ [] → pieces_of_draw tracked first count memory ≡ []
  unfolding pieces_of_draw pieces_at
  pieces_of_draw-none first count none = ap (λ (places : List ℕ). pieces_at tracked places memory) none

  pub pieces_of_draw-before : (first count : ℤ) → first <ℤ pos 0 → pieces_of_draw tracked first count memory ≡ []
  pieces_of_draw-before (pos first) count before = absurd (omega (arith, ints, before))
  pieces_of_draw-before (negsuc below) count before = pieces_of_draw-none (negsuc below) count (unfold places_drawn in refl)

  pub pieces_of_draw-no_count : (first count : ℤ) → count <ℤ pos 1 → pieces_of_draw tracked first count memory ≡ []
  pieces_of_draw-no_count (pos first) (pos zero) few = pieces_of_draw-none (pos first) (pos zero) (unfold places_drawn in refl)
  pieces_of_draw-no_count (pos first) (pos (suc count)) few = absurd (omega (arith, ints, few))
  pieces_of_draw-no_count (pos first) (negsuc below) few = pieces_of_draw-none (pos first) (negsuc below) (unfold places_drawn in refl)
  pieces_of_draw-no_count (negsuc below) count few = pieces_of_draw-none (negsuc below) count (unfold places_drawn in refl)

  pub pieces_of_draw-too_many : (first count : ℤ) → pos 65536 <ℤ count → pieces_of_draw tracked first count memory ≡ []
  pieces_of_draw-too_many (pos first) (pos count) many =
      pieces_of_draw-none (pos first) (pos count) (unfold places_drawn in cond-false (nat_le count 65536) _ _ (lt-leb count 65536 (omega (arith, ints, many))))
  pieces_of_draw-too_many (pos first) (negsuc below) many = absurd (omega (arith, ints, many))
  pieces_of_draw-too_many (negsuc below) count many = pieces_of_draw-none (negsuc below) count (unfold places_drawn in refl)

-- the piece of an array before an end, where draws read it from client memory
abbrev pub part_of_array : ℕ → ℕ → ℕ → ArrayState → List Piece
part_of_array end least greatest array = cond (is_client array) (part_before end (span_of array least greatest)) []

first_kept : (f : ArrayState → List Piece) (keeps : Bool) (array : ArrayState) (arrays : List ArrayState) → flat_map f (cond keeps (array ∷ arrays) arrays) ≡ cond keeps (f array) [] ++ flat_map f arrays
first_kept f true array arrays = refl
first_kept f false array arrays = refl

flat_map-filter : (f : ArrayState → List Piece) (keeps : ArrayState → Bool) (arrays : List ArrayState) → flat_map f (filter keeps arrays) ≡ flat_map (λ array. cond (keeps array) (f array) []) arrays
flat_map-filter f keeps [] = refl
flat_map-filter f keeps (array ∷ arrays) =
    first_kept f (keeps array) array (filter keeps arrays)
    ∙ ap (λ (parts : List Piece). cond (keeps array) (f array) [] ++ parts) (flat_map-filter f keeps arrays)

-- where vertices are read, the pieces are those of each array in turn
pieces_between-enabled : (tracked : Tracked) (least greatest : ℕ) (bytes : List ℕ) → tracked.vertex.enabled ≡ true
    → pieces_between tracked least greatest (memory_of bytes) ≡ flat_map (part_of_array (length bytes) least greatest) (arrays_in_order tracked)
unfolding pieces_between parts_in arrays_read
pieces_between-enabled tracked least greatest bytes is =
    ap (λ (end : ℕ). flat_map (part_before end) (map (λ array. span_of array least greatest) (arrays_read tracked))) (memory_end-memory_of bytes)
    ∙ ap (λ (arrays : List ArrayState). flat_map (part_before (length bytes)) (map (λ array. span_of array least greatest) arrays)) (cond-true tracked.vertex.enabled (filter is_client (arrays_in_order tracked)) [] is)
    ∙ flat_map-map (part_before (length bytes)) (λ array. span_of array least greatest) (filter is_client (arrays_in_order tracked))
    ∙ flat_map-filter (λ array. part_before (length bytes) (span_of array least greatest)) is_client (arrays_in_order tracked)

-- where vertices aren't read, nothing is
pub pieces_between-disabled : (tracked : Tracked) (least greatest : ℕ) (memory : List Segment) → tracked.vertex.enabled ≡ false → pieces_between tracked least greatest memory ≡ []
unfolding pieces_between parts_in arrays_read
pieces_between-disabled tracked least greatest memory isnt =
    ap (λ (arrays : List ArrayState). flat_map (part_before (memory_end memory)) (map (λ array. span_of array least greatest) arrays)) (cond-false tracked.vertex.enabled (filter is_client (arrays_in_order tracked)) [] isnt)

-- the parts of all arrays, pushed onto none, are the pieces where vertices are read
pub pieces_between-pushed : (tracked : Tracked) (least greatest end : ℕ) (bytes : List ℕ) (none new : List Piece) (arrays : List ArrayState) → tracked.vertex.enabled ≡ true
    → none ≡ [] → end ≡ length bytes → arrays ≡ arrays_in_order tracked → new ≡ none ++ flat_map (part_of_array end least greatest) arrays
    → new ≡ pieces_between tracked least greatest (memory_of bytes)
pieces_between-pushed tracked least greatest end bytes none new arrays enabled is_none is_end are pushed =
    pushed
    ∙ ap (λ (before : List Piece). before ++ flat_map (part_of_array end least greatest) arrays) is_none
    ∙ ap (λ (n : ℕ). flat_map (part_of_array n least greatest) arrays) is_end
    ∙ ap (λ (all : List ArrayState). flat_map (part_of_array (length bytes) least greatest) all) are
    ∙ sym (pieces_between-enabled tracked least greatest bytes enabled)

-- the parts of one array more are those before, and its own
pub parts_pushed : (f : ArrayState → List Piece) (old pieces new : List Piece) (arrays : List ArrayState) (index : ℕ) (other : ArrayState) → index < length arrays
    → pieces ≡ old ++ flat_map f (take index arrays) → new ≡ pieces ++ f (get_or arrays index other) → new ≡ old ++ flat_map f (take (index + 1) arrays)
parts_pushed f old pieces new arrays index other within so_far pushed =
    pushed
    ∙ ap (λ (before : List Piece). before ++ f (get_or arrays index other)) so_far
    ∙ flat_map_more f old (take index arrays) (get_or arrays index other)
    ∙ ap (λ (some : List ArrayState). old ++ flat_map f some) (sym (take_more arrays index other within))

-- the part of a range in client memory, pushed onto others, is what is left of that range behind them
pub range_appended : (old new : List Piece) (pushed range : Piece) (end : ℕ) (bytes : List ℕ) → pushed ≡ range → end ≡ length bytes → new ≡ old ++ part_before end pushed
    → new ≡ old ++ parts_in (memory_of bytes) (range ∷ [])
unfolding parts_in
range_appended old new pushed range end bytes is_range is_end is_new =
    is_new
    ∙ ap (λ (r : Piece). old ++ part_before end r) is_range
    ∙ ap (λ (n : ℕ). old ++ part_before n range) (is_end ∙ sym (memory_end-memory_of bytes))
    ∙ ap (λ (parts : List Piece). old ++ parts) (sym (append-nil (part_before (memory_end (memory_of bytes)) range)))

-- and pushed onto none, that alone
pub range_pushed : (none new : List Piece) (pushed range : Piece) (end : ℕ) (bytes : List ℕ) → none ≡ [] → pushed ≡ range → end ≡ length bytes → new ≡ none ++ part_before end pushed
    → new ≡ parts_in (memory_of bytes) (range ∷ [])
range_pushed none new pushed range end bytes is_none is_range is_end is_new =
    range_appended none new pushed range end bytes is_range is_end is_new
    ∙ ap (λ (before : List Piece). before ++ parts_in (memory_of bytes) (range ∷ [])) is_none
