-- The bytes of slots, and those lent from them.
use Rattle.std.proofs.Common.{◌≡◌, ℕ, suc, inl, inr, ◌+◌, ◌-◌, ◌*◌, ◌/◌, ◌%◌, ◌^◌, ◌<◌, ◌≤◌, List, [], ◌∷◌, ◌++◌, length, slice_index, take, drop, Some, None, bit_and, refl, sym, ap, ◌∙◌, arith}
use Rattle.std.proofs.lemmas.Bool.{cases_lt}
use Rattle.std.proofs.lemmas.List.{take-append-drop, drop_at, drop-drop, ext_get_or, length-append, length-take-le, length-drop, get_or-take, get_or-drop, get_or_append_left, get_or-append_right}
use Rattle.std.proofs.lemmas.List.Concat.{flat_map-append}
use Rattle.std.proofs.lemmas.List.FromFn.{length-map-range_with_len, get_or-map-range_with_len}
use Rattle.std.specs.Prelude.{slice_get}
use Rattle.std.proofs.lemmas.Nat.{and_mask}
use Rattle.std.proofs.lemmas.Option.{slice_get-get_or}
use Rattle.gl_memory.specs.Segment.{Segment, byte_in}
use Rattle.gl_memory.specs.Slots.{bytes_of_slot, bytes_of_slots, LieIn, lent}
use Rattle.gl_memory.proofs.Bytes.{byte_in-inside, byte_in-before, byte_in-behind}

pub length-bytes_of_slot : (slot : ℕ) → length (bytes_of_slot slot) ≡ 8
unfolding bytes_of_slot
length-bytes_of_slot slot = length-map-range_with_len (λ number. slot / 2 ^ (8 * number) % 256) 0 8

pub slice_index-bytes_of_slot : (slot number : ℕ) → number < 8 → slice_index (bytes_of_slot slot) number ≡ slot / 2 ^ (8 * number) % 256
unfolding bytes_of_slot
slice_index-bytes_of_slot slot number h = get_or-map-range_with_len (λ number. slot / 2 ^ (8 * number) % 256) 0 8 number number 0 h (omega arith)

pub bytes_of_slots-cons : (slot : ℕ) (slots : List ℕ) → bytes_of_slots (slot ∷ slots) ≡ bytes_of_slot slot ++ bytes_of_slots slots
unfolding bytes_of_slots
bytes_of_slots-cons slot slots = refl

pub length-bytes_of_slots : (slots : List ℕ) → length (bytes_of_slots slots) ≡ 8 * length slots
length-bytes_of_slots [] = unfold bytes_of_slots in refl
length-bytes_of_slots (slot ∷ slots) =
    let both = ap length (bytes_of_slots-cons slot slots) ∙ length-append (bytes_of_slot slot) (bytes_of_slots slots) in
    omega (arith, length-bytes_of_slot slot, length-bytes_of_slots slots)

-- the byte with a number lies in the slot with an eighth of it
pub slice_index-bytes_of_slots : (slots : List ℕ) (number : ℕ) → number < 8 * length slots → slice_index (bytes_of_slots slots) number ≡ slice_index slots (number / 8) / 2 ^ (8 * (number % 8)) % 256
slice_index-bytes_of_slots [] number h = absurd (omega arith)
slice_index-bytes_of_slots (slot ∷ slots) number h =
    ap (λ (bytes : List ℕ). slice_index bytes number) (bytes_of_slots-cons slot slots)
    ∙ elim (cases_lt number 8) [
      | inl below ↦
          let quotient : number / 8 ≡ 0 = omega arith in
          let rest : number % 8 ≡ number = omega arith in
          get_or_append_left (bytes_of_slot slot) (bytes_of_slots slots) 0 number (omega (arith, length-bytes_of_slot slot))
          ∙ slice_index-bytes_of_slot slot number below
          ∙ ap (λ (n : ℕ). slot / 2 ^ (8 * n) % 256) (sym rest)
          ∙ ap (λ (n : ℕ). slice_index (slot ∷ slots) n / 2 ^ (8 * (number % 8)) % 256) (sym quotient)
      | inr above ↦
          let quotient : suc ((number - 8) / 8) ≡ number / 8 = omega arith in
          let rest : (number - 8) % 8 ≡ number % 8 = omega arith in
          get_or-append_right (bytes_of_slot slot) (bytes_of_slots slots) 8 number 0 (length-bytes_of_slot slot) above
          ∙ slice_index-bytes_of_slots slots (number - 8) (omega arith)
          ∙ ap (λ (n : ℕ). slice_index slots ((number - 8) / 8) / 2 ^ (8 * n) % 256) rest
          ∙ ap (λ (n : ℕ). slice_index (slot ∷ slots) n / 2 ^ (8 * (number % 8)) % 256) quotient
    ]

-- as many bytes are lent as were asked for
pub length-lent : (slots : List ℕ) (skip len : ℕ) → LieIn slots skip len → length (lent slots skip len) ≡ len
unfolding lent
length-lent slots skip len h =
    let there : length (drop skip (bytes_of_slots slots)) ≡ 8 * length slots - skip = length-drop skip (bytes_of_slots slots) ∙ ap (λ (n : ℕ). n - skip) (length-bytes_of_slots slots) in
    length-take-le len (drop skip (bytes_of_slots slots)) (omega arith)

pub slice_index-lent : (slots : List ℕ) (skip len number : ℕ) → number < len → slice_index (lent slots skip len) number ≡ slice_index (bytes_of_slots slots) (skip + number)
unfolding lent
slice_index-lent slots skip len number h =
    get_or-take len (drop skip (bytes_of_slots slots)) number 0 h ∙ get_or-drop skip (bytes_of_slots slots) number 0

-- a segment of lent bytes, at a place
abbrev pub segment_of : ℕ → ℕ → List ℕ → ℕ → Segment
segment_of start len slots skip = record { start = start; bytes = lent slots skip len }

module _ (start len : ℕ) (slots : List ℕ) (skip : ℕ) (there : LieIn slots skip len) (place : ℕ) where
  pub byte_in-lent : start ≤ place → place < start + len → byte_in (segment_of start len slots skip) place ≡ slice_get (bytes_of_slots slots) (skip + (place - start))
  byte_in-lent from below =
      byte_in-inside (segment_of start len slots skip) place from (omega (arith, length-lent slots skip len there))
      ∙ ap Some (slice_index-lent slots skip len (place - start) (omega arith))
      ∙ sym (slice_get-get_or (bytes_of_slots slots) (skip + (place - start)) 0 (omega (arith, length-bytes_of_slots slots)))

  pub byte_in-lent_before : place < start → byte_in (segment_of start len slots skip) place ≡ None
  byte_in-lent_before before = byte_in-before (segment_of start len slots skip) place before

  pub byte_in-lent_behind : start ≤ place → len ≤ place - start → byte_in (segment_of start len slots skip) place ≡ None
  byte_in-lent_behind from behind = byte_in-behind (segment_of start len slots skip) place (omega (arith, length-lent slots skip len there))

-- the byte that the lowest eight bits of a shifted slot are
pub slice_get-bytes_of_slots : (slots : List ℕ) (number : ℕ) → number < 8 * length slots → slice_get (bytes_of_slots slots) number ≡ Some (bit_and (slice_index slots (number / 8) / 2 ^ (8 * (number % 8))) 255)
slice_get-bytes_of_slots slots number h =
    slice_get-get_or (bytes_of_slots slots) number 0 (omega (arith, length-bytes_of_slots slots))
    ∙ ap Some (slice_index-bytes_of_slots slots number h ∙ sym (and_mask (slice_index slots (number / 8) / 2 ^ (8 * (number % 8))) 8))

pub bytes_of_slots-append : (slots more : List ℕ) → bytes_of_slots (slots ++ more) ≡ bytes_of_slots slots ++ bytes_of_slots more
unfolding bytes_of_slots
bytes_of_slots-append slots more = flat_map-append bytes_of_slot slots more

pub bytes_of_slots-drop : (count : ℕ) (slots : List ℕ) → count ≤ length slots → bytes_of_slots (drop count slots) ≡ drop (8 * count) (bytes_of_slots slots)
bytes_of_slots-drop count slots within =
    let front : length (bytes_of_slots (take count slots)) ≡ 8 * count = length-bytes_of_slots (take count slots) ∙ ap (λ (n : ℕ). 8 * n) (length-take-le count slots within) in
    sym (ap (drop (8 * count)) (sym (ap bytes_of_slots (take-append-drop count slots)) ∙ bytes_of_slots-append (take count slots) (drop count slots))
    ∙ drop_at (bytes_of_slots (take count slots)) (bytes_of_slots (drop count slots)) (8 * count) front)

-- what is lent from the slots behind the first ones is lent from all, eight bytes a slot further on
pub lent-drop : (slots : List ℕ) (count skip len : ℕ) → count ≤ length slots → lent (drop count slots) skip len ≡ lent slots (8 * count + skip) len
unfolding lent
lent-drop slots count skip len within =
    ap (take len) (ap (drop skip) (bytes_of_slots-drop count slots within) ∙ drop-drop skip (8 * count) (bytes_of_slots slots))

-- lists that have each lent byte are what is lent
pub is_lent : (bytes slots : List ℕ) (skip : ℕ) → LieIn slots skip (length bytes) → ((number : ℕ) → number < length bytes → slice_index bytes number ≡ slice_index (bytes_of_slots slots) (skip + number)) → lent slots skip (length bytes) ≡ bytes
is_lent bytes slots skip there each =
    let same_length = length-lent slots skip (length bytes) there in
    ext_get_or 0 (lent slots skip (length bytes)) bytes same_length
    (λ number below. slice_index-lent slots skip (length bytes) number (omega arith) ∙ sym (each number (omega arith)))
