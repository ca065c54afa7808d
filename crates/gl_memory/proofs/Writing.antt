-- What a write over bytes leaves at each place.
use Rattle.std.proofs.Common.{◌≡◌, ℕ, inl, inr, ◌+◌, ◌-◌, ◌<◌, ◌≤◌, List, ◌++◌, length, slice_index, min, take, drop, sym, ap, ◌∙◌, arith}
use Rattle.std.specs.Prelude.{nat_le, nat_lt, ◌&&◌}
use Rattle.std.proofs.lemmas.Bool.{cond-true, cond-false, le-leb, lt-leb, lt-ltb, le-ltb, and_from, and_left, and_right, cases_lt}
use Rattle.std.proofs.lemmas.List.{length-append, length-take-le, length-drop, get_or_past, get_or-take, get_or-drop, get_or_append_left, get_or-append_right}
use Rattle.std.proofs.lemmas.List.FromFn.{length-map-range_with_len, get_or-map-range_with_len, fill_by_all}
use Rattle.gl_memory.specs.ClientMemory.{byte_written, written}
use Rattle.gl_memory.specs.Laws.{ReadsBack}
use Rattle.gl_memory.proofs.Bytes.{byte_at-memory_of}

pub byte_written-inside : (old : List ℕ) (at : ℕ) (bytes : List ℕ) (place : ℕ) → at ≤ place → place < at + length bytes → byte_written old at bytes place ≡ slice_index bytes (place - at)
unfolding byte_written
byte_written-inside old at bytes place from below =
    cond-true (nat_le at place && nat_lt place (at + length bytes)) (slice_index bytes (place - at)) (slice_index old place)
    (and_from (nat_le at place) (nat_lt place (at + length bytes)) (le-leb at place from) (lt-ltb place (at + length bytes) below))

pub byte_written-before : (old : List ℕ) (at : ℕ) (bytes : List ℕ) (place : ℕ) → place < at → byte_written old at bytes place ≡ slice_index old place
unfolding byte_written
byte_written-before old at bytes place before =
    cond-false (nat_le at place && nat_lt place (at + length bytes)) (slice_index bytes (place - at)) (slice_index old place)
    (and_left (nat_le at place) (nat_lt place (at + length bytes)) (lt-leb at place before))

pub byte_written-behind : (old : List ℕ) (at : ℕ) (bytes : List ℕ) (place : ℕ) → at + length bytes ≤ place → byte_written old at bytes place ≡ slice_index old place
unfolding byte_written
byte_written-behind old at bytes place behind =
    cond-false (nat_le at place && nat_lt place (at + length bytes)) (slice_index bytes (place - at)) (slice_index old place)
    (and_right (nat_le at place) (nat_lt place (at + length bytes)) (le-ltb place (at + length bytes) behind))

pub length-written : (old : List ℕ) (at : ℕ) (bytes : List ℕ) → length (written old at bytes) ≡ length old
unfolding written
length-written old at bytes = length-map-range_with_len (byte_written old at bytes) 0 (length old)

pub slice_index-written : (old : List ℕ) (at : ℕ) (bytes : List ℕ) (place : ℕ) → place < length old → slice_index (written old at bytes) place ≡ byte_written old at bytes place
unfolding written
slice_index-written old at bytes place h = get_or-map-range_with_len (byte_written old at bytes) 0 (length old) place place 0 h (omega arith)

-- a list with the bytes written at each place is what the write leaves
pub is_written : (old new : List ℕ) (at : ℕ) (bytes : List ℕ) → length new ≡ length old → ((place : ℕ) → place < length old → slice_index new place ≡ byte_written old at bytes place) → new ≡ written old at bytes
unfolding written
is_written old new at bytes same_length each = fill_by_all (byte_written old at bytes) new (length old) 0 same_length each

-- a write from the end on changes nothing
pub written-past : (old : List ℕ) (at : ℕ) (bytes : List ℕ) → length old ≤ at → old ≡ written old at bytes
written-past old at bytes past = is_written old old at bytes (omega arith) (λ place h. sym (byte_written-before old at bytes place (omega arith)))

pub reads_back : (old : List ℕ) (at : ℕ) (bytes : List ℕ) → ReadsBack old at bytes
reads_back old at bytes = record {
  same_length = length-written old at bytes;
  inside = λ place h. byte_at-memory_of (written old at bytes) place ∙ slice_index-written old at bytes place h;
  outside = λ place h. byte_at-memory_of (written old at bytes) place ∙ get_or_past (written old at bytes) place 0 (omega (arith, length-written old at bytes));
}

module _ (old : List ℕ) (at : ℕ) (bytes written_part : List ℕ) (count : ℕ) (within : at < length old) (most : count ≡ min (length bytes) (length old - at)) (part : written_part ≡ take count bytes) where
  length-part : length written_part ≡ count
  length-part = ap length part ∙ length-take-le count bytes (omega arith)

  length-front : length (take at old) ≡ at
  length-front = length-take-le at old (omega arith)

  -- the bytes before, those written, and those behind, one after another
  abbrev put : List ℕ
  put = take at old ++ (written_part ++ drop count (drop at old))

  length-put : length put ≡ length old
  length-put =
      let first = length-append (take at old) (written_part ++ drop count (drop at old)) in
      let second = length-append written_part (drop count (drop at old)) in
      let third = length-drop count (drop at old) in
      let fourth = length-drop at old in
      omega (arith, length-part, length-front)

  put-before : (place : ℕ) → place < at → slice_index put place ≡ slice_index old place
  put-before place h =
      get_or_append_left (take at old) (written_part ++ drop count (drop at old)) 0 place (omega (arith, length-front))
      ∙ get_or-take at old place 0 h

  put-inside : (place : ℕ) → at ≤ place → place < at + count → slice_index put place ≡ slice_index bytes (place - at)
  put-inside place from below =
      get_or-append_right (take at old) (written_part ++ drop count (drop at old)) at place 0 length-front from
      ∙ get_or_append_left written_part (drop count (drop at old)) 0 (place - at) (omega (arith, length-part))
      ∙ ap (λ (xs : List ℕ). slice_index xs (place - at)) part
      ∙ get_or-take count bytes (place - at) 0 (omega arith)

  put-behind : (place : ℕ) → at + count ≤ place → slice_index put place ≡ slice_index old place
  put-behind place behind =
      get_or-append_right (take at old) (written_part ++ drop count (drop at old)) at place 0 length-front (omega arith)
      ∙ get_or-append_right written_part (drop count (drop at old)) count (place - at) 0 length-part (omega arith)
      ∙ get_or-drop count (drop at old) (place - at - count) 0
      ∙ get_or-drop at old (count + (place - at - count)) 0
      ∙ ap (slice_index old) (omega arith)

  -- the part that fits, put in at its place, is what the write leaves
  pub put-is_written : put ≡ written old at bytes
  put-is_written = is_written old put at bytes length-put (λ place h.
      elim (cases_lt place at) [
        | inl before ↦ put-before place before ∙ sym (byte_written-before old at bytes place before)
        | inr from ↦ elim (cases_lt place (at + count)) [
          | inl below ↦ put-inside place from below ∙ sym (byte_written-inside old at bytes place from (omega arith))
          | inr behind ↦ put-behind place behind ∙ sym (byte_written-behind old at bytes place (omega arith))
        ]
      ])
