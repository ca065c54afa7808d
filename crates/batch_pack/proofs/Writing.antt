-- Writing a spelling slot by slot: the arguments, the pieces one after another, and the bytes of each.
use Rattle.std.proofs.Common.{◌≡◌, ℕ, ◌+◌, ◌-◌, ◌*◌, ◌^◌, ◌<◌, ◌≤◌, List, [], ◌∷◌, ◌++◌, length, slice_index, map, take, drop, replicate, min, zero, suc, Some, inl, inr, refl, sym, ap, ◌∙◌, arith}
use Rattle.std.specs.Int.{from_le_bytes, w64}
use Rattle.std.specs.List.{slice_get, flat_map, range_with_len, sum_by}
use Rattle.std.proofs.lemmas.Bool.{cases_lt}
use Rattle.std.proofs.lemmas.List.{append_assoc, length-append, length-map, length-take-le, take_more, take_all, take-append-drop, get_or-map, get_or_past, get_or-take, get_or-drop, get_or_append_left, get_or-append_right, length-drop, flat_map_more}
use Rattle.std.proofs.lemmas.List.Concat.{flat_map-append}
use Rattle.std.proofs.lemmas.List.FromFn.{map-range_with_len_more}
use Rattle.std.proofs.lemmas.List.Sums.{sum-map, sum_by-cons}
use Rattle.std.proofs.lemmas.Option.{get_or_from_slice_get, slice_get_within}
use Rattle.gl_words.specs.declared.call.Call.{Call}
use Rattle.gl_words.specs.Call.{id_of, arguments}
use Rattle.gl_memory.specs.declared.piece.Piece.{Piece}
use Rattle.gl_memory.specs.Segment.{Segment}
use Rattle.gl_memory.specs.ClientMemory.{memory_of}
use Rattle.gl_memory.specs.Piece.{bytes_from, cut_out, cut}
use Rattle.gl_memory.proofs.Bytes.{byte_at-memory_of}
use Rattle.gl_memory.proofs.Cuts.{length-bytes_from, slice_index-bytes_from, cut-cons}
use Rattle.gl_words.specs.Slots.{slot_of}
use Rattle.batch_pack.specs.Spelling.{slots_for, slot_at, slots_of_bytes, segment_slots, segment_spelling, slots_of, header_of, spelling_of}
use Rattle.batch_pack.specs.Batch.{captured}
use Rattle.batch_pack.proofs.Words.{from_le_bytes-same, slot_at-same}

-- ---- how many slots

-- how many slots a piece takes: its start, its length, and its bytes
abbrev pub piece_slots_of : Piece → ℕ
piece_slots_of piece = 2 + slots_for piece.len

pub segment_slots-cut_out : (memory : List Segment) (piece : Piece) → segment_slots (cut_out memory piece) ≡ piece_slots_of piece
unfolding segment_slots cut_out
segment_slots-cut_out memory piece = ap (λ (n : ℕ). 2 + slots_for n) (length-bytes_from memory piece.start piece.len)

sum_by-cut : (memory : List Segment) (pieces : List Piece) → sum_by segment_slots (cut pieces memory) ≡ sum_by piece_slots_of pieces
sum_by-cut memory [] = unfold cut in refl
sum_by-cut memory (piece ∷ pieces) =
    ap (sum_by segment_slots) (cut-cons piece pieces memory)
    ∙ sum_by-cons segment_slots (cut_out memory piece) (cut pieces memory)
    ∙ ap (λ (n : ℕ). n + sum_by segment_slots (cut pieces memory)) (segment_slots-cut_out memory piece)
    ∙ ap (λ (n : ℕ). piece_slots_of piece + n) (sum_by-cut memory pieces)
    ∙ sym (sum_by-cons piece_slots_of piece pieces)

-- the bytes don't decide how many slots there are
pub slots_of-captured : (call : Call) (pieces : List Piece) (bytes : List ℕ) → slots_of (captured call pieces bytes) ≡ 1 + length (arguments call) + sum_by piece_slots_of pieces
unfolding slots_of
slots_of-captured call pieces bytes =
    ap (λ (n : ℕ). 1 + length (arguments call) + n) (sum-map segment_slots (cut pieces (memory_of bytes)) ∙ sum_by-cut (memory_of bytes) pieces)

-- ---- the pieces

module _ (bytes : List ℕ) (pieces : List Piece) where
  abbrev pub spelled_to : ℕ → List ℕ
  spelled_to at = flat_map segment_spelling (take at (cut pieces (memory_of bytes)))

  pub length-cut : length (cut pieces (memory_of bytes)) ≡ length pieces
  unfolding cut
  length-cut = length-map pieces (cut_out (memory_of bytes))

  -- one more piece
  pub pieces-more : (at : ℕ) (piece : Piece) → slice_get pieces at ≡ Some piece → spelled_to (at + 1) ≡ spelled_to at ++ segment_spelling (cut_out (memory_of bytes) piece)
  unfolding cut
  pieces-more at piece e =
      let segments = cut pieces (memory_of bytes) in
      let segment = cut_out (memory_of bytes) piece in
      let within = slice_get_within pieces at piece e in
      let one : take (at + 1) segments ≡ take at segments ++ segment ∷ [] =
      take_more segments at segment (omega (arith, length-cut))
      ∙ ap (λ (s : Segment). take at segments ++ s ∷ []) (get_or-map (cut_out (memory_of bytes)) pieces at piece segment within ∙ ap (cut_out (memory_of bytes)) (get_or_from_slice_get pieces at piece piece e))
      in
      ap (flat_map segment_spelling) one ∙ sym (flat_map_more segment_spelling [] (take at segments) segment)

  pub pieces-all : (at : ℕ) → length pieces ≤ at → spelled_to at ≡ flat_map segment_spelling (cut pieces (memory_of bytes))
  pieces-all at all = ap (flat_map segment_spelling) (take_all at (cut pieces (memory_of bytes)) (omega (arith, length-cut)))

  -- the first pieces take no more slots than all
  pub pieces-fit : (at : ℕ) → length (spelled_to at) ≤ length (flat_map segment_spelling (cut pieces (memory_of bytes)))
  pieces-fit at =
      let segments = cut pieces (memory_of bytes) in
      let whole = ap (λ (s : List Segment). length (flat_map segment_spelling s)) (take-append-drop at segments) in
      let split = ap length (flat_map-append segment_spelling (take at segments) (drop at segments)) in
      let sizes = length-append (flat_map segment_spelling (take at segments)) (flat_map segment_spelling (drop at segments)) in
      omega arith

-- ---- the bytes of a piece

-- one more slot of bytes
pub words-more : (old : List ℕ) (f : ℕ → ℕ) (number : ℕ) → (old ++ map f (range_with_len 0 number)) ++ f number ∷ [] ≡ old ++ map f (range_with_len 0 (number + 1))
words-more old f number =
    append_assoc old (map f (range_with_len 0 number)) (f number ∷ [])
    ∙ ap (λ (s : List ℕ). old ++ s) (sym (map-range_with_len_more f 0 number number (omega arith)))

-- the bytes from a place on are those of client memory, and zeros where there are none
pub slice_index-piece : (bytes : List ℕ) (start len number : ℕ) → number < len → slice_index (bytes_from (memory_of bytes) start len) number ≡ slice_index bytes (start + number)
slice_index-piece bytes start len number below =
    slice_index-bytes_from (memory_of bytes) start len number (start + number) below refl ∙ byte_at-memory_of bytes (start + number)

-- the slot of a piece is that of the bytes from its place on
pub slot_at-piece : (bytes : List ℕ) (start len skip count : ℕ) → skip ≤ len → count ≡ min 8 (len - skip) → slot_at (bytes_from (memory_of bytes) start len) skip ≡ from_le_bytes w64 (bytes_from (memory_of bytes) (start + skip) count)
slot_at-piece bytes start len skip count within is =
    let whole = bytes_from (memory_of bytes) start len in
    let part = bytes_from (memory_of bytes) (start + skip) count in
    slot_at-same whole part skip (λ j below.
    elim (cases_lt (skip + j) len) [
      | inl inside ↦
          slice_index-piece bytes start len (skip + j) inside
          ∙ ap (slice_index bytes) (omega arith)
          ∙ sym (slice_index-piece bytes (start + skip) count j (omega arith))
      | inr past ↦
          get_or_past whole (skip + j) 0 (omega (arith, length-bytes_from (memory_of bytes) start len))
          ∙ sym (get_or_past part j 0 (omega (arith, length-bytes_from (memory_of bytes) (start + skip) count)))
    ])

-- a piece's start, length and slots are the spelling of the segment cut out
pub piece-spelling : (bytes : List ℕ) (piece : Piece) (count : ℕ) → count ≡ slots_for piece.len
    → (piece.start ∷ piece.len ∷ map (λ number. slot_at (bytes_from (memory_of bytes) piece.start piece.len) (8 * number)) (range_with_len 0 count)) ≡ segment_spelling (cut_out (memory_of bytes) piece)
unfolding segment_spelling cut_out slots_of_bytes
piece-spelling bytes piece count whole =
    let cut_bytes = bytes_from (memory_of bytes) piece.start piece.len in
    let same_length = length-bytes_from (memory_of bytes) piece.start piece.len in
    ap (λ (n : ℕ). piece.start ∷ piece.len ∷ map (λ number. slot_at cut_bytes (8 * number)) (range_with_len 0 n)) (whole ∙ ap slots_for (sym same_length))
    ∙ ap (λ (n : ℕ). piece.start ∷ n ∷ map (λ number. slot_at cut_bytes (8 * number)) (range_with_len 0 (slots_for (length cut_bytes)))) (sym same_length)

-- bytes copied to the front of zeros make up the slot of the bytes there are
zeros-at : (n place : ℕ) → slice_index (replicate n 0) place ≡ 0
zeros-at zero place = refl
zeros-at (suc n) zero = refl
zeros-at (suc n) (suc place) = zeros-at n place

behind-end : (bytes : List ℕ) (at count j : ℕ) → length bytes ≤ at + j → slice_index (bytes_from (memory_of bytes) at count) j ≡ 0
behind-end bytes at count j past = elim (cases_lt j count) [
  | inl below ↦ slice_index-piece bytes at count j below ∙ get_or_past bytes (at + j) 0 past
  | inr over ↦ get_or_past (bytes_from (memory_of bytes) at count) j 0 (omega (arith, length-bytes_from (memory_of bytes) at count))
]

pub partial-some : (bytes word copied : List ℕ) (at count there : ℕ) → at < length bytes → there ≡ min count (length bytes - at) → copied ≡ take there (drop at bytes)
    → word ≡ copied ++ drop there (replicate 8 0) → from_le_bytes w64 word ≡ from_le_bytes w64 (bytes_from (memory_of bytes) at count)
partial-some bytes word copied at count there inside is copy filled =
    let many : length copied ≡ there = ap length copy ∙ length-take-le there (drop at bytes) (omega (arith, length-drop at bytes)) in
    from_le_bytes-same word (bytes_from (memory_of bytes) at count) (λ j below.
    ap (λ (w : List ℕ). slice_index w j) filled
    ∙ elim (cases_lt j there) [
      | inl front ↦
          get_or_append_left copied (drop there (replicate 8 0)) 0 j (omega (arith, many))
          ∙ ap (λ (w : List ℕ). slice_index w j) copy
          ∙ get_or-take there (drop at bytes) j 0 front
          ∙ get_or-drop at bytes j 0
          ∙ sym (slice_index-piece bytes at count j (omega arith))
      | inr back ↦
          get_or-append_right copied (drop there (replicate 8 0)) there j 0 many back
          ∙ get_or-drop there (replicate 8 0) (j - there) 0
          ∙ zeros-at 8 (there + (j - there))
          ∙ sym (elim (cases_lt j count) [
            | inl within ↦ behind-end bytes at count j (omega arith)
            | inr over ↦ get_or_past (bytes_from (memory_of bytes) at count) j 0 (omega (arith, length-bytes_from (memory_of bytes) at count))
          ])
    ])

pub partial-none : (bytes word : List ℕ) (at count : ℕ) → length bytes ≤ at → word ≡ replicate 8 0 → from_le_bytes w64 word ≡ from_le_bytes w64 (bytes_from (memory_of bytes) at count)
partial-none bytes word at count past zeros =
    from_le_bytes-same word (bytes_from (memory_of bytes) at count) (λ j below.
    ap (λ (w : List ℕ). slice_index w j) zeros ∙ zeros-at 8 j ∙ sym (behind-end bytes at count j (omega arith)))

-- ---- the whole

module _ (call : Call) (pieces : List Piece) (bytes : List ℕ) where
  abbrev segments : List Segment
  segments = cut pieces (memory_of bytes)

  pub header_of-captured : (count : ℕ) → count ≡ slots_of (captured call pieces bytes) → id_of call + 2 ^ 16 * count + 2 ^ 48 * length pieces ≡ header_of (captured call pieces bytes)
  unfolding header_of
  header_of-captured count is =
      ap (λ (n : ℕ). id_of call + 2 ^ 16 * n + 2 ^ 48 * length pieces) is
      ∙ ap (λ (n : ℕ). id_of call + 2 ^ 16 * slots_of (captured call pieces bytes) + 2 ^ 48 * n) (sym (length-cut bytes pieces))

  -- the header, the arguments and the segments put behind other slots
  pub parts-captured : (old : List ℕ) → ((old ++ header_of (captured call pieces bytes) ∷ []) ++ map slot_of (arguments call)) ++ flat_map segment_spelling segments ≡ old ++ spelling_of (captured call pieces bytes)
  unfolding spelling_of
  parts-captured old =
      let front = header_of (captured call pieces bytes) ∷ [] in
      append_assoc (old ++ front) (map slot_of (arguments call)) (flat_map segment_spelling segments)
      ∙ append_assoc old front (map slot_of (arguments call) ++ flat_map segment_spelling segments)
