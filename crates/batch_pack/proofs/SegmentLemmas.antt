-- The spelling of segments: how long it is, and that what is read from it is what was spelled.
use Rattle.std.proofs.Common.{◌≡◌, ℕ, zero, suc, ◌+◌, ◌-◌, ◌*◌, ◌/◌, ◌%◌, ◌^◌, ◌<◌, ◌≤◌, List, [], ◌∷◌, ◌++◌, length, slice_index, map, take, drop, inl, inr, refl, sym, ap, ◌∙◌, subst, lit<, arith}
use Rattle.std.specs.List.{AllByRecursion, flat_map, range_with_len, sum_by}
use Rattle.std.proofs.lemmas.Bool.{cases_lt}
use Rattle.std.proofs.lemmas.List.Elements.{All-from_get_or, recursion_from_All}
use Rattle.std.proofs.lemmas.List.{append_assoc, append_cancel_left, append-nil, length-append, length-drop, drop-drop, length-take-le, take_at, drop_at, get_or_past, get_or-take, get_or_append_left, take-append-drop}
use Rattle.std.proofs.lemmas.List.Concat.{flat_map-append}
use Rattle.std.proofs.lemmas.List.FromFn.{length-map-range_with_len, get_or-map-range_with_len, fill_by_all}
use Rattle.std.proofs.lemmas.List.Sums.{sum_by-cons}
use Rattle.std.proofs.lemmas.Nat.{shr-shr}
use Rattle.gl_memory.specs.Segment.{Segment}
use Rattle.gl_memory.specs.Slots.{bytes_of_slots, LieIn, lent}
use Rattle.gl_memory.proofs.SlotBytes.{length-lent, slice_index-lent, slice_index-bytes_of_slots, is_lent}
use Rattle.batch_pack.specs.Spelling.{slots_for, slot_at, slots_of_bytes, segment_slots, segment_spelling, IsSegment}
use Rattle.batch_pack.specs.Decoding.{segment_at, segments_at}
use Rattle.batch_pack.specs.Holding.{BeginWith}
use Rattle.batch_pack.proofs.Words.{AreSmall, AreSmall-from_bytes, byte-slot_at, slot_at-slot, few-slot_at}

-- ---- bytes in slots

-- the slots of so many bytes hold them, and fewer than eight more
pub slots_for-holds : (len : ℕ) → (len ≤ 8 * slots_for len) × (8 * slots_for len < len + 8)
unfolding slots_for
slots_for-holds len = (omega arith, omega arith)

pub LieIn-slots_for : (slots : List ℕ) (len : ℕ) → slots_for len ≤ length slots → LieIn slots 0 len
LieIn-slots_for slots len room = omega (arith, slots_for-holds len)

pub slots_for-LieIn : (slots : List ℕ) (len : ℕ) → LieIn slots 0 len → slots_for len ≤ length slots
slots_for-LieIn slots len there = omega (arith, slots_for-holds len)

pub length-slots_of_bytes : (bytes : List ℕ) → length (slots_of_bytes bytes) ≡ slots_for (length bytes)
unfolding slots_of_bytes
length-slots_of_bytes bytes = length-map-range_with_len (λ number. slot_at bytes (8 * number)) 0 (slots_for (length bytes))

pub slice_index-slots_of_bytes : (bytes : List ℕ) (number : ℕ) → number < slots_for (length bytes) → slice_index (slots_of_bytes bytes) number ≡ slot_at bytes (8 * number)
unfolding slots_of_bytes
slice_index-slots_of_bytes bytes number below = get_or-map-range_with_len (λ number. slot_at bytes (8 * number)) 0 (slots_for (length bytes)) number number 0 below (omega arith)

-- a list with the slot of each eight bytes is those bytes in slots
pub is_slots_of_bytes : (slots bytes : List ℕ) (count : ℕ) → count ≡ slots_for (length bytes) → length slots ≡ count → ((number : ℕ) → number < count → slice_index slots number ≡ slot_at bytes (8 * number)) → slots ≡ slots_of_bytes bytes
unfolding slots_of_bytes
is_slots_of_bytes slots bytes count whole same_length each =
    fill_by_all (λ number. slot_at bytes (8 * number)) slots count 0 same_length each
    ∙ ap (λ (n : ℕ). map (λ number. slot_at bytes (8 * number)) (range_with_len 0 n)) whole

-- the bytes that were put into slots are lent from them
pub lent-slots_of_bytes : (bytes more : List ℕ) → AreSmall bytes → lent (slots_of_bytes bytes ++ more) 0 (length bytes) ≡ bytes
lent-slots_of_bytes bytes more small =
    let slots = slots_of_bytes bytes ++ more in
    let many = length-append (slots_of_bytes bytes) more in
    let holds = slots_for-holds (length bytes) in
    is_lent bytes slots 0 (omega (arith, length-slots_of_bytes bytes)) (λ number below.
    let at : number / 8 < slots_for (length bytes) = omega arith in
    let rest : number % 8 < 8 = omega arith in
    let whole : 8 * (number / 8) + number % 8 ≡ number = omega arith in
    ap (slice_index bytes) (sym whole)
    ∙ sym (byte-slot_at bytes (8 * (number / 8)) (number % 8) small rest)
    ∙ ap (λ (slot : ℕ). slot / 2 ^ (8 * (number % 8)) % 256)
    (sym (get_or_append_left (slots_of_bytes bytes) more 0 (number / 8) (omega (arith, length-slots_of_bytes bytes)) ∙ slice_index-slots_of_bytes bytes (number / 8) at))
    ∙ sym (slice_index-bytes_of_slots slots (0 + number) (omega (arith, length-slots_of_bytes bytes)) ∙ ap (λ (n : ℕ). slice_index slots (n / 8) / 2 ^ (8 * (n % 8)) % 256) (omega arith)))

-- ---- slots with zeros behind the last byte

module _ (slots : List ℕ) (len : ℕ) (fit : (place : ℕ) → slice_index slots place < 2 ^ 64) (room : slots_for len ≤ length slots) where
  length-is : length (lent slots 0 len) ≡ len
  length-is = length-lent slots 0 len (LieIn-slots_for slots len room)

  inside : (number j : ℕ) → j < 8 → 8 * number + j < len → slice_index (lent slots 0 len) (8 * number + j) ≡ slice_index slots number / 2 ^ (8 * j) % 256
  inside number j below within =
      let quotient : (8 * number + j) / 8 ≡ number = omega arith in
      let rest : (8 * number + j) % 8 ≡ j = omega arith in
      slice_index-lent slots 0 len (8 * number + j) within
      ∙ ap (slice_index (bytes_of_slots slots)) (omega arith)
      ∙ slice_index-bytes_of_slots slots (8 * number + j) (omega (arith, slots_for-holds len))
      ∙ ap (λ (n : ℕ). slice_index slots n / 2 ^ (8 * ((8 * number + j) % 8)) % 256) quotient
      ∙ ap (λ (n : ℕ). slice_index slots number / 2 ^ (8 * n) % 256) rest

  -- the last slot has zeros above its bytes
  abbrev pub EndsInZeros : Type 0
  EndsInZeros = (len % 8 ≡ 0 → ⊥) → slice_index slots (slots_for len - 1) / 2 ^ (8 * (len % 8)) ≡ 0

  behind : EndsInZeros → (number j : ℕ) → number < slots_for len → j < 8 → len ≤ 8 * number + j → slice_index (lent slots 0 len) (8 * number + j) ≡ slice_index slots number / 2 ^ (8 * j) % 256
  behind zeros number j there below past =
      let holds = slots_for-holds len in
      let last : slots_for len - 1 ≡ number = omega arith in
      let used : len % 8 ≤ j = omega arith in
      let none = ap (λ (n : ℕ). slice_index slots n / 2 ^ (8 * (len % 8))) (sym last) ∙ zeros (λ e. absurd (omega arith)) in
      let split : 8 * (len % 8) + 8 * (j - len % 8) ≡ 8 * j = omega arith in
      let zero_divided : 0 / 2 ^ (8 * (j - len % 8)) ≡ 0 = omega arith in
      get_or_past (lent slots 0 len) (8 * number + j) 0 (omega (arith, length-is))
      ∙ sym (ap (λ (n : ℕ). n % 256) (ap (λ (n : ℕ). slice_index slots number / 2 ^ n) (sym split)
      ∙ sym (shr-shr (slice_index slots number) (8 * (len % 8)) (8 * (j - len % 8)))
      ∙ ap (λ (n : ℕ). n / 2 ^ (8 * (j - len % 8))) none
      ∙ zero_divided))

  -- so they are the lent bytes in slots
  pub take-filled : EndsInZeros → take (slots_for len) slots ≡ slots_of_bytes (lent slots 0 len)
  take-filled zeros =
      is_slots_of_bytes (take (slots_for len) slots) (lent slots 0 len) (slots_for len) (ap slots_for (sym length-is)) (length-take-le (slots_for len) slots room) (λ number there.
      get_or-take (slots_for len) slots number 0 there
      ∙ sym (slot_at-slot (lent slots 0 len) (8 * number) (slice_index slots number) (fit number) (λ j below.
      elim (cases_lt (8 * number + j) len) [
        | inl within ↦ inside number j below within
        | inr past ↦ behind zeros number j there below past
      ])))

  -- and if they are, the last slot has zeros above its bytes
  pub filled-zeros : AreSmall (lent slots 0 len) → take (slots_for len) slots ≡ slots_of_bytes (lent slots 0 len) → EndsInZeros
  filled-zeros small same part =
      let holds = slots_for-holds len in
      let there : slots_for len - 1 < slots_for len = omega arith in
      let used : len % 8 < 8 = omega arith in
      ap (λ (slot : ℕ). slot / 2 ^ (8 * (len % 8)))
      (sym (get_or-take (slots_for len) slots (slots_for len - 1) 0 there)
      ∙ ap (λ (s : List ℕ). slice_index s (slots_for len - 1)) same
      ∙ slice_index-slots_of_bytes (lent slots 0 len) (slots_for len - 1) (subst (λ (n : ℕ). slots_for len - 1 < slots_for n) (sym length-is) there))
      ∙ few-slot_at (lent slots 0 len) (8 * (slots_for len - 1)) (len % 8) small used (omega (arith, length-is))

-- ---- bytes that are lent

pub AreSmall-lent : (slots : List ℕ) (len : ℕ) → LieIn slots 0 len → AreSmall (lent slots 0 len)
AreSmall-lent slots len there number = elim (cases_lt number len) [
  | inl below ↦
      subst (λ (byte : ℕ). byte < 256)
      (sym (slice_index-lent slots 0 len number below ∙ slice_index-bytes_of_slots slots (0 + number) (omega arith)))
      (omega arith)
  | inr past ↦ subst (λ (byte : ℕ). byte < 256) (sym (get_or_past (lent slots 0 len) number 0 (omega (arith, length-lent slots 0 len there)))) (lit< tt)
]

pub bytes-lent : (slots : List ℕ) (len : ℕ) → LieIn slots 0 len → AllByRecursion (λ byte. byte < 256) (lent slots 0 len)
bytes-lent slots len there =
    recursion_from_All (λ byte. byte < 256) (lent slots 0 len) (All-from_get_or (λ byte. byte < 256) (lent slots 0 len) 0 (λ number below. AreSmall-lent slots len there number))

-- ---- one segment in slots

pub length-segment_spelling : (segment : Segment) → length (segment_spelling segment) ≡ segment_slots segment
unfolding segment_spelling segment_slots
length-segment_spelling segment = omega (arith, length-slots_of_bytes segment.bytes)

-- the first segment is read where its spelling stands
pub segment_at-spelled : (segment : Segment) (more : List ℕ) → IsSegment segment → segment_at (segment_spelling segment ++ more) ≡ segment
unfolding segment_at segment_spelling
segment_at-spelled segment more h =
    ap (λ (bytes : List ℕ). let s : Segment = record { start = segment.start; bytes = bytes } in s)
    (lent-slots_of_bytes segment.bytes more (AreSmall-from_bytes segment.bytes h.bytes))

pub drop-segment_spelling : (segment : Segment) (more : List ℕ) → drop (segment_slots segment) (segment_spelling segment ++ more) ≡ more
drop-segment_spelling segment more = drop_at (segment_spelling segment) more (segment_slots segment) (length-segment_spelling segment)

-- what slots say that begin with a segment
module _ (slots more : List ℕ) (segment : Segment) (is : IsSegment segment) (begins : slots ≡ segment_spelling segment ++ more) where
  pub long_enough : 2 ≤ length slots
  unfolding segment_spelling
  long_enough =
      let e = ap length begins in
      omega arith

  pub start_is : slice_index slots 0 ≡ segment.start
  unfolding segment_spelling
  start_is = ap (λ (s : List ℕ). slice_index s 0) begins

  pub length_is : slice_index slots 1 ≡ length segment.bytes
  unfolding segment_spelling
  length_is = ap (λ (s : List ℕ). slice_index s 1) begins

  pub behind_is : drop 2 slots ≡ slots_of_bytes segment.bytes ++ more
  unfolding segment_spelling
  behind_is = ap (drop 2) begins

  pub in_range : (1 ≤ slice_index slots 1) × (slice_index slots 0 + slice_index slots 1 ≤ 2 ^ 62)
  in_range = (omega (arith, length_is, is.some), omega (arith, start_is, length_is, is.end))

  pub holds_bytes : LieIn (drop 2 slots) 0 (slice_index slots 1)
  holds_bytes =
      let e = ap length behind_is ∙ length-append (slots_of_bytes segment.bytes) more in
      omega (arith, length_is, length-slots_of_bytes segment.bytes, slots_for-holds (length segment.bytes))

  pub lies_in : LieIn slots 16 (slice_index slots 1)
  lies_in = omega (arith, long_enough, holds_bytes, length-drop 2 slots)

  pub count_is : slots_for (slice_index slots 1) ≡ slots_for (length segment.bytes)
  count_is = ap slots_for length_is

  pub fits_in : (count : ℕ) → count ≡ slots_for (slice_index slots 1) → 2 + count ≤ length slots
  fits_in count is =
      let e = ap length behind_is ∙ length-append (slots_of_bytes segment.bytes) more in
      omega (arith, count_is, long_enough, length-drop 2 slots, length-slots_of_bytes segment.bytes)

  -- the slots behind the segment, as many on as it takes
  pub rest_is : (count : ℕ) → count ≡ slots_for (slice_index slots 1) → drop (2 + count) slots ≡ more
  unfolding segment_slots
  rest_is count is =
      ap (λ (n : ℕ). drop (2 + n) slots) (is ∙ count_is)
      ∙ ap (drop (segment_slots segment)) begins
      ∙ drop-segment_spelling segment more

  pub is_filled : take (slots_for (slice_index slots 1)) (drop 2 slots) ≡ slots_of_bytes (lent (drop 2 slots) 0 (slice_index slots 1))
  is_filled =
      ap (λ (n : ℕ). take (slots_for n) (drop 2 slots)) length_is
      ∙ ap (take (slots_for (length segment.bytes))) behind_is
      ∙ take_at (slots_of_bytes segment.bytes) more (slots_for (length segment.bytes)) (length-slots_of_bytes segment.bytes)
      ∙ sym (ap slots_of_bytes (ap (lent (drop 2 slots) 0) length_is ∙ ap (λ (s : List ℕ). lent s 0 (length segment.bytes)) behind_is ∙ lent-slots_of_bytes segment.bytes more (AreSmall-from_bytes segment.bytes is.bytes)))

-- the first two slots, and the others
first_two : (slots : List ℕ) → 2 ≤ length slots → slots ≡ slice_index slots 0 ∷ slice_index slots 1 ∷ drop 2 slots
first_two [] long = absurd (omega arith)
first_two (first ∷ []) long = absurd (omega arith)
first_two (first ∷ second ∷ slots) long = refl

-- slots that say so begin with a segment
module _ (slots : List ℕ) (long : 2 ≤ length slots) (range : (1 ≤ slice_index slots 1) × (slice_index slots 0 + slice_index slots 1 ≤ 2 ^ 62))
    (there : LieIn (drop 2 slots) 0 (slice_index slots 1)) (filled : take (slots_for (slice_index slots 1)) (drop 2 slots) ≡ slots_of_bytes (lent (drop 2 slots) 0 (slice_index slots 1))) where
  same_length : length (lent (drop 2 slots) 0 (slice_index slots 1)) ≡ slice_index slots 1
  same_length = length-lent (drop 2 slots) 0 (slice_index slots 1) there

  pub IsSegment-read : IsSegment (segment_at slots)
  unfolding segment_at
  IsSegment-read = record {
    some = omega (arith, same_length, range.0);
    end = omega (arith, same_length, range.1);
    bytes = bytes-lent (drop 2 slots) (slice_index slots 1) there;
  }

  pub segment_slots-read : (count : ℕ) → count ≡ slots_for (slice_index slots 1) → 2 + count ≡ segment_slots (segment_at slots)
  unfolding segment_at segment_slots
  segment_slots-read count is = ap (λ (n : ℕ). 2 + n) (is ∙ ap slots_for (sym same_length))

  pub spelled-read : (count : ℕ) → count ≡ slots_for (slice_index slots 1) → slots ≡ segment_spelling (segment_at slots) ++ drop (2 + count) slots
  unfolding segment_at segment_spelling
  spelled-read count is =
      let words = slots_of_bytes (lent (drop 2 slots) 0 (slice_index slots 1)) in
      first_two slots long
      ∙ ap (λ (s : List ℕ). slice_index slots 0 ∷ slice_index slots 1 ∷ s)
      (sym (take-append-drop count (drop 2 slots))
      ∙ ap (λ (s : List ℕ). s ++ drop count (drop 2 slots)) (ap (λ (n : ℕ). take n (drop 2 slots)) is ∙ filled)
      ∙ ap (λ (s : List ℕ). words ++ s) (drop-drop count 2 slots))
      ∙ ap (λ (n : ℕ). slice_index slots 0 ∷ n ∷ (words ++ drop (2 + count) slots)) (sym same_length)

-- ---- segments one after another

pub flat_map-cons-append : (segment : Segment) (segments : List Segment) (more : List ℕ)
    → flat_map segment_spelling (segment ∷ segments) ++ more ≡ segment_spelling segment ++ (flat_map segment_spelling segments ++ more)
flat_map-cons-append segment segments more = append_assoc (segment_spelling segment) (flat_map segment_spelling segments) more

pub length-segments : (segments : List Segment) → length (flat_map segment_spelling segments) ≡ sum_by segment_slots segments
length-segments [] = refl
length-segments (segment ∷ segments) =
    let e1 = length-append (segment_spelling segment) (flat_map segment_spelling segments) in
    let e2 = sum_by-cons segment_slots segment segments in
    omega (arith, length-segment_spelling segment, length-segments segments)

-- the segments are read where their spellings stand
pub segments_at-spelled : (segments : List Segment) (more : List ℕ) → AllByRecursion IsSegment segments → segments_at (length segments) (flat_map segment_spelling segments ++ more) ≡ segments
unfolding segments_at
segments_at-spelled [] more h = refl
segments_at-spelled (segment ∷ segments) more h =
    let rest = flat_map segment_spelling segments ++ more in
    ap (λ (slots : List ℕ). segment_at slots ∷ segments_at (length segments) (drop (segment_slots (segment_at slots)) slots)) (flat_map-cons-append segment segments more)
    ∙ ap (λ (s : Segment). s ∷ segments_at (length segments) (drop (segment_slots s) (segment_spelling segment ++ rest))) (segment_at-spelled segment rest (h.0))
    ∙ ap (λ (slots : List ℕ). segment ∷ segments_at (length segments) slots) (drop-segment_spelling segment rest)
    ∙ ap (λ (list : List Segment). segment ∷ list) (segments_at-spelled segments more (h.1))

-- one more segment that was read
pub segments-more : (read : List Segment) (segment : Segment) (slots rest left : List ℕ) → slots ≡ flat_map segment_spelling read ++ rest → rest ≡ segment_spelling segment ++ left
    → slots ≡ flat_map segment_spelling (read ++ segment ∷ []) ++ left
segments-more read segment slots rest left so_far begins =
    let one : flat_map segment_spelling (segment ∷ []) ≡ segment_spelling segment = append-nil (segment_spelling segment) in
    so_far
    ∙ ap (λ (s : List ℕ). flat_map segment_spelling read ++ s) begins
    ∙ sym (append_assoc (flat_map segment_spelling read) (segment_spelling segment) left)
    ∙ ap (λ (s : List ℕ). s ++ left) (sym (flat_map-append segment_spelling read (segment ∷ []) ∙ ap (λ (s : List ℕ). flat_map segment_spelling read ++ s) one))

pub segments-push : (read : List Segment) (segment : Segment) → AllByRecursion IsSegment read → IsSegment segment → AllByRecursion IsSegment (read ++ segment ∷ [])
segments-push [] segment are is = (is, tt)
segments-push (first ∷ read) segment are is = (are.0, segments-push read segment (are.1) is)

-- where fewer segments were read than there are, what is left begins with one
pub next_segment : {P : Type 0} (read segments : List Segment) (rest more : List ℕ) → AllByRecursion IsSegment read → AllByRecursion IsSegment segments → length read < length segments
    → flat_map segment_spelling read ++ rest ≡ flat_map segment_spelling segments ++ more
    → ((segment : Segment) (left : List ℕ) → IsSegment segment → rest ≡ segment_spelling segment ++ left → P) → P
next_segment read [] rest more h k fewer same next = absurd (omega arith)
next_segment [] (segment ∷ segments) rest more h k fewer same next =
    next segment (flat_map segment_spelling segments ++ more) (k.0) (same ∙ flat_map-cons-append segment segments more)
next_segment (first ∷ read) (segment ∷ segments) rest more h k fewer same next =
    let both = sym (flat_map-cons-append first read rest) ∙ same ∙ flat_map-cons-append segment segments more in
    let one : first ≡ segment =
    sym (segment_at-spelled first (flat_map segment_spelling read ++ rest) (h.0)) ∙ ap segment_at both ∙ segment_at-spelled segment (flat_map segment_spelling segments ++ more) (k.0)
    in
    next_segment read segments rest more (h.1) (k.1) (omega arith)
    (append_cancel_left (segment_spelling first) (flat_map segment_spelling read ++ rest) (flat_map segment_spelling segments ++ more)
    (both ∙ ap (λ (s : Segment). segment_spelling s ++ (flat_map segment_spelling segments ++ more)) (sym one)))
    next

-- slots are the spellings of so many segments, and the rest
abbrev pub AreReadTo : ℕ → List ℕ → List ℕ → Type 0
AreReadTo count slots rest = (read : List Segment) × AllByRecursion IsSegment read × (length read ≡ count) × (slots ≡ flat_map segment_spelling read ++ rest)

-- they are the segments that are read there
pub segments_at-read : (count : ℕ) (slots rest : List ℕ) (h : AreReadTo count slots rest) → segments_at count slots ≡ h.0
segments_at-read count slots rest h =
    ap (λ (n : ℕ). segments_at n slots) (sym (h.2)) ∙ ap (segments_at (length (h.0))) (h.3) ∙ segments_at-spelled (h.0) rest (h.1)

pub BeginWith-read : (count : ℕ) (slots rest : List ℕ) → count ≤ 8 → AreReadTo count slots rest → BeginWith count slots
BeginWith-read count slots rest few h =
    let same = segments_at-read count slots rest h in
    record {
      few = few;
      are = subst (λ (list : List Segment). AllByRecursion IsSegment list) (sym same) (h.1);
      spelled = (rest, h.3 ∙ ap (λ (list : List Segment). flat_map segment_spelling list ++ rest) (sym same));
    }

pub nothing_read : (slots : List ℕ) → AreReadTo 0 slots slots
nothing_read slots = ([], tt, refl, refl)

-- slots begin with the spellings of as many segments in one way only
pub same_segments : (segments others : List Segment) (more rest : List ℕ) → AllByRecursion IsSegment segments → AllByRecursion IsSegment others
    → length segments ≡ length others → flat_map segment_spelling segments ++ more ≡ flat_map segment_spelling others ++ rest → segments ≡ others
same_segments segments others more rest h k many same =
    sym (segments_at-spelled segments more h)
    ∙ ap (segments_at (length segments)) same
    ∙ ap (λ (n : ℕ). segments_at n (flat_map segment_spelling others ++ rest)) many
    ∙ segments_at-spelled others rest k

-- ---- slots that begin with segments, from the first on

module _ (many others : ℕ) (one_more : many ≡ suc others) (slots : List ℕ) (begin : BeginWith many slots) where
  abbrev behind_first : List ℕ
  behind_first = drop (segment_slots (segment_at slots)) slots

  first_and_others : segments_at many slots ≡ segment_at slots ∷ segments_at others behind_first
  unfolding segments_at
  first_and_others = ap (λ (n : ℕ). segments_at n slots) one_more

  all_are : AllByRecursion IsSegment (segment_at slots ∷ segments_at others behind_first)
  all_are = subst (λ (list : List Segment). AllByRecursion IsSegment list) first_and_others begin.are

  all_spelled : slots ≡ segment_spelling (segment_at slots) ++ (flat_map segment_spelling (segments_at others behind_first) ++ begin.spelled.0)
  all_spelled =
      begin.spelled.1
      ∙ ap (λ (list : List Segment). flat_map segment_spelling list ++ begin.spelled.0) first_and_others
      ∙ flat_map-cons-append (segment_at slots) (segments_at others behind_first) (begin.spelled.0)

  pub first_is : IsSegment (segment_at slots)
  first_is = all_are.0

  pub first_begins : (more : List ℕ) × (slots ≡ segment_spelling (segment_at slots) ++ more)
  first_begins = (flat_map segment_spelling (segments_at others behind_first) ++ begin.spelled.0, all_spelled)

  module _ (left : List ℕ) (behind : slots ≡ segment_spelling (segment_at slots) ++ left) where
    behind_is_left : behind_first ≡ left
    behind_is_left = ap (drop (segment_slots (segment_at slots))) behind ∙ drop-segment_spelling (segment_at slots) left

    pub segments_at-first : segments_at many slots ≡ segment_at slots ∷ segments_at others left
    segments_at-first = first_and_others ∙ ap (λ (s : List ℕ). segment_at slots ∷ segments_at others s) behind_is_left

    pub BeginWith-others : BeginWith others left
    BeginWith-others = record {
      few = omega (arith, begin.few);
      are = subst (λ (s : List ℕ). AllByRecursion IsSegment (segments_at others s)) behind_is_left (all_are.1);
      spelled = (
        begin.spelled.0,
        append_cancel_left (segment_spelling (segment_at slots)) left (flat_map segment_spelling (segments_at others behind_first) ++ begin.spelled.0) (sym behind ∙ all_spelled)
            ∙ ap (λ (s : List ℕ). flat_map segment_spelling (segments_at others s) ++ begin.spelled.0) behind_is_left,
      );
    }

pub segments_at-none : (count : ℕ) (slots : List ℕ) → count ≡ 0 → segments_at count slots ≡ []
unfolding segments_at
segments_at-none count slots none = ap (λ (n : ℕ). segments_at n slots) none

pub length-segments_at : (count : ℕ) (slots : List ℕ) → length (segments_at count slots) ≡ count
unfolding segments_at
length-segments_at zero slots = refl
length-segments_at (suc n) slots = ap suc (length-segments_at n (drop (segment_slots (segment_at slots)) slots))
