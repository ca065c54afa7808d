-- The byte that a segment and a memory have at a place.
use Rattle.std.proofs.Common.{◌≡◌, ℕ, inl, inr, ◌+◌, ◌-◌, ◌<◌, ◌≤◌, List, [], ◌∷◌, length, slice_index, Option, Some, None, refl, sym, ap, ◌∙◌, arith}
use Rattle.std.specs.Prelude.{nat_le, slice_get, unwrap_or}
use Rattle.std.proofs.lemmas.Bool.{cond-true, cond-false, le-leb, lt-leb, cases_lt}
use Rattle.std.proofs.lemmas.List.{get_or_past}
use Rattle.std.proofs.lemmas.Option.{slice_get-get_or, slice_get_past}
use Rattle.std.specs.List.{All}
use Rattle.std.proofs.lemmas.List.Elements.{All-nil, All-cons, All-from_get_or}
use Rattle.gl_memory.specs.Segment.{Segment, byte_in, byte_at, AreBytes}
use Rattle.gl_memory.specs.ClientMemory.{memory_of}
use Rattle.gl_memory.specs.Laws.{ReadsFirst}

pub byte_in-inside : (segment : Segment) (place : ℕ) → segment.start ≤ place → place < segment.start + length segment.bytes → byte_in segment place ≡ Some (slice_index segment.bytes (place - segment.start))
unfolding byte_in
byte_in-inside segment place from below =
    cond-true (nat_le segment.start place) (slice_get segment.bytes (place - segment.start)) None (le-leb segment.start place from)
    ∙ slice_get-get_or segment.bytes (place - segment.start) 0 (omega arith)

pub byte_in-before : (segment : Segment) (place : ℕ) → place < segment.start → byte_in segment place ≡ None
unfolding byte_in
byte_in-before segment place before =
    cond-false (nat_le segment.start place) (slice_get segment.bytes (place - segment.start)) None (lt-leb segment.start place before)

pub byte_in-behind : (segment : Segment) (place : ℕ) → segment.start + length segment.bytes ≤ place → byte_in segment place ≡ None
unfolding byte_in
byte_in-behind segment place behind =
    cond-true (nat_le segment.start place) (slice_get segment.bytes (place - segment.start)) None (le-leb segment.start place (omega arith))
    ∙ slice_get_past segment.bytes (place - segment.start) (omega arith)

pub byte_at-nil : (place : ℕ) → byte_at [] place ≡ 0
unfolding byte_at
byte_at-nil place = refl

-- the first segment has its byte
pub byte_at-first : (first : Segment) (others : List Segment) (place byte : ℕ) → byte_in first place ≡ Some byte → byte_at (first ∷ others) place ≡ byte
unfolding byte_at
byte_at-first first others place byte e = ap (λ (o : Option ℕ). unwrap_or o (byte_at others place)) e

-- where the first segment doesn't hold the place, the others have the byte
pub byte_at-others : (first : Segment) (others : List Segment) (place : ℕ) → byte_in first place ≡ None → byte_at (first ∷ others) place ≡ byte_at others place
unfolding byte_at
byte_at-others first others place e = ap (λ (o : Option ℕ). unwrap_or o (byte_at others place)) e

pub reads_first : (first : Segment) (others : List Segment) (place : ℕ) → ReadsFirst first others place
reads_first first others place = record {
  inside = λ from below. byte_at-first first others place (slice_index first.bytes (place - first.start)) (byte_in-inside first place from below);
  before = λ h. byte_at-others first others place (byte_in-before first place h);
  behind = λ h. byte_at-others first others place (byte_in-behind first place h);
}

pub byte_at-memory_of : (bytes : List ℕ) (place : ℕ) → byte_at (memory_of bytes) place ≡ slice_index bytes place
byte_at-memory_of bytes place =
    let whole : Segment = record { start = 0; bytes = bytes } in
    elim (cases_lt place (length bytes)) [
      | inl h ↦ byte_at-first whole [] place (slice_index bytes (place - 0)) (byte_in-inside whole place (omega arith) (omega arith)) ∙ ap (slice_index bytes) (omega arith)
      | inr h ↦ byte_at-others whole [] place (byte_in-behind whole place (omega arith)) ∙ byte_at-nil place ∙ sym (get_or_past bytes place 0 h)
    ]

-- client memory is made of bytes where each of its places has one
pub AreBytes-memory_of : (bytes : List ℕ) → ((place : ℕ) → slice_index bytes place < 256) → AreBytes (memory_of bytes)
AreBytes-memory_of bytes small =
    let whole : Segment = record { start = 0; bytes = bytes } in
    All-cons (λ (segment : Segment). All (λ byte. byte < 256) segment.bytes) whole []
    (All-from_get_or (λ byte. byte < 256) bytes 0 (λ place below. small place))
    (All-nil (λ (segment : Segment). All (λ byte. byte < 256) segment.bytes))
