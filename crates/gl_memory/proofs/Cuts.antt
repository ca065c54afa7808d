-- What is cut out of a memory has the memory's bytes.
use Rattle.std.proofs.Common.{◌≡◌, ℕ, inl, inr, ◌+◌, ◌-◌, ◌<◌, List, [], ◌∷◌, length, slice_index, Some, refl, sym, ap, ◌∙◌, arith}
use Rattle.std.proofs.lemmas.Bool.{cases_lt}
use Rattle.std.proofs.lemmas.List.{ext_get_or}
use Rattle.std.proofs.lemmas.List.Elements.{All-nil, All-cons, All-head, All-tail, All-weaker}
use Rattle.std.proofs.lemmas.List.FromFn.{length-map-range_with_len, get_or-map-range_with_len}
use Rattle.gl_memory.specs.declared.piece.Piece.{Piece}
use Rattle.gl_memory.specs.Segment.{Segment, byte_in, byte_at}
use Rattle.gl_memory.specs.Piece.{LiesIn, Agree, bytes_from, cut_out, cut}
use Rattle.gl_memory.proofs.Bytes.{byte_in-inside, byte_in-before, byte_in-behind, byte_at-first, byte_at-others}

pub length-bytes_from : (memory : List Segment) (start len : ℕ) → length (bytes_from memory start len) ≡ len
unfolding bytes_from
length-bytes_from memory start len = length-map-range_with_len (byte_at memory) start len

pub slice_index-bytes_from : (memory : List Segment) (start len number place : ℕ) → number < len → start + number ≡ place → slice_index (bytes_from memory start len) number ≡ byte_at memory place
unfolding bytes_from
slice_index-bytes_from memory start len number place h e = get_or-map-range_with_len (byte_at memory) start len number place 0 h e

pub cut-cons : (piece : Piece) (pieces : List Piece) (memory : List Segment) → cut (piece ∷ pieces) memory ≡ cut_out memory piece ∷ cut pieces memory
unfolding cut
cut-cons piece pieces memory = refl

-- a segment cut out has the memory's byte at its places
pub cut_out-inside : (memory : List Segment) (piece : Piece) (place : ℕ) → LiesIn place piece → byte_in (cut_out memory piece) place ≡ Some (byte_at memory place)
unfolding cut_out
cut_out-inside memory piece place lies =
    let same_length = length-bytes_from memory piece.start piece.len in
    byte_in-inside (cut_out memory piece) place lies.from (omega (arith, lies.below))
    ∙ ap Some (slice_index-bytes_from memory piece.start piece.len (place - piece.start) place (omega (arith, lies.from, lies.below)) (omega (arith, lies.from)))

-- at each place the first segment cut out has the memory's byte, or the others have the byte
cut-cases : (memory : List Segment) (piece : Piece) (pieces : List Piece) (place : ℕ) → byte_at memory place ≡ byte_at (cut pieces memory) place → byte_at memory place ≡ byte_at (cut (piece ∷ pieces) memory) place
cut-cases memory piece pieces place others =
    let whole = ap (λ (m : List Segment). byte_at m place) (cut-cons piece pieces memory) in
    let same_length = length-bytes_from memory piece.start piece.len in
    elim (cases_lt place piece.start) [
      | inl before ↦ others ∙ sym (byte_at-others (cut_out memory piece) (cut pieces memory) place (byte_in-before (cut_out memory piece) place (unfold cut_out in before))) ∙ sym whole
      | inr from ↦ elim (cases_lt place (piece.start + piece.len)) [
        | inl below ↦ sym (byte_at-first (cut_out memory piece) (cut pieces memory) place (byte_at memory place) (cut_out-inside memory piece place (record { from = from; below = below }))) ∙ sym whole
        | inr behind ↦ others ∙ sym (byte_at-others (cut_out memory piece) (cut pieces memory) place (byte_in-behind (cut_out memory piece) place (unfold cut_out in omega arith))) ∙ sym whole
      ]
    ]

-- the cut has the memory's byte at each place of the pieces
pub cut_agrees : (memory : List Segment) (pieces : List Piece) → Agree memory (cut pieces memory) pieces
cut_agrees memory [] = All-nil (λ (range : Piece). (place : ℕ) → LiesIn place range → byte_at memory place ≡ byte_at (cut [] memory) place)
cut_agrees memory (piece ∷ pieces) =
    All-cons (λ (range : Piece). (place : ℕ) → LiesIn place range → byte_at memory place ≡ byte_at (cut (piece ∷ pieces) memory) place) piece pieces
    (λ place lies.
    sym (byte_at-first (cut_out memory piece) (cut pieces memory) place (byte_at memory place) (cut_out-inside memory piece place lies))
    ∙ sym (ap (λ (m : List Segment). byte_at m place) (cut-cons piece pieces memory)))
    (All-weaker (λ (range : Piece). (place : ℕ) → LiesIn place range → byte_at memory place ≡ byte_at (cut pieces memory) place)
    (λ (range : Piece). (place : ℕ) → LiesIn place range → byte_at memory place ≡ byte_at (cut (piece ∷ pieces) memory) place)
    (λ range same place lies. cut-cases memory piece pieces place (same place lies)) pieces (cut_agrees memory pieces))

-- memories with the same bytes in a piece have the same segment cut out
cut_out-agree : (m n : List Segment) (piece : Piece) → ((place : ℕ) → LiesIn place piece → byte_at m place ≡ byte_at n place) → cut_out m piece ≡ cut_out n piece
unfolding cut_out
cut_out-agree m n piece same =
    let in_m = length-bytes_from m piece.start piece.len in
    let in_n = length-bytes_from n piece.start piece.len in
    ap (λ (bytes : List ℕ). let s : Segment = record { start = piece.start; bytes = bytes } in s)
    (ext_get_or 0 (bytes_from m piece.start piece.len) (bytes_from n piece.start piece.len) (in_m ∙ sym in_n)
    (λ number below.
    let within : number < piece.len = omega arith in
    slice_index-bytes_from m piece.start piece.len number (piece.start + number) within refl
    ∙ same (piece.start + number) (record { from = omega arith; below = omega arith })
    ∙ sym (slice_index-bytes_from n piece.start piece.len number (piece.start + number) within refl)))

-- memories that agree on pieces have the same cut out
pub cut-agree : (m n : List Segment) (pieces : List Piece) → Agree m n pieces → cut pieces m ≡ cut pieces n
cut-agree m n [] agree = unfold cut in refl
cut-agree m n (piece ∷ pieces) agree =
    let same_in = λ (range : Piece). (place : ℕ) → LiesIn place range → byte_at m place ≡ byte_at n place in
    let first = cut_out-agree m n piece (All-head same_in piece pieces agree) in
    let others = cut-agree m n pieces (All-tail same_in piece pieces agree) in
    cut-cons piece pieces m
    ∙ ap (λ (segment : Segment). segment ∷ cut pieces m) first
    ∙ ap (λ (segments : List Segment). cut_out n piece ∷ segments) others
    ∙ sym (cut-cons piece pieces n)
