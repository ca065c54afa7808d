-- The parts of ranges that lie in a memory, and what is cut out of the memory there. No array stands here.
use Rattle.std.proofs.Common.{◌≡◌, ℕ, inl, inr, ◌+◌, ◌<◌, ◌≤◌, List, [], ◌∷◌, ◌++◌, length, sym, ap, subst, ◌∙◌, arith}
use Rattle.std.specs.Prelude.{◌-◌, ◌&&◌, min, max, nat_lt, All}
use Rattle.std.proofs.lemmas.Bool.{and_from, cases_lt, cond-true, lt-ltb}
use Rattle.std.proofs.lemmas.List.Elements.{All-head, All-tail, All-weaker}
use Rattle.gl_memory.specs.declared.piece.Piece.{Piece}
use Rattle.gl_memory.specs.ClientMemory.{memory_of}
use Rattle.gl_memory.specs.Piece.{LiesIn, cut, cut_out}
use Rattle.gl_memory.specs.Segment.{Segment, byte_at}
use Rattle.gl_memory.proofs.Bytes.{byte_at-first, byte_at-nil, byte_at-others, byte_in-before, byte_in-behind}
use Rattle.gl_memory.proofs.Cuts.{cut-cons, cut_agrees, cut_out-inside, length-bytes_from}
use Rattle.array_capture.specs.Law.{Cover, LiesInOne, Serve}
use Rattle.array_capture.specs.Pieces.{memory_end, part_before}

pub memory_end-memory_of : (bytes : List ℕ) → memory_end (memory_of bytes) ≡ length bytes
unfolding memory_end
memory_end-memory_of bytes = omega arith

-- a memory has no byte but 0 from its end on
pub byte_at-past : (memory : List Segment) (place : ℕ) → memory_end memory ≤ place → byte_at memory place ≡ 0
unfolding memory_end
byte_at-past [] place past = byte_at-nil place
byte_at-past (segment ∷ segments) place past =
    let behind_each : max (segment.start + length segment.bytes) (memory_end segments) ≤ place = past in
    byte_at-others segment segments place (byte_in-behind segment place (omega arith)) ∙ byte_at-past segments place (omega arith)

-- where a memory has 0, what is cut out of it has 0
pub byte_at-cut-zero : (memory : List Segment) (pieces : List Piece) (place : ℕ) → byte_at memory place ≡ 0 → byte_at (cut pieces memory) place ≡ 0
byte_at-cut-zero memory [] place is = unfold cut in byte_at-nil place
byte_at-cut-zero memory (piece ∷ pieces) place is =
    let whole = ap (λ (m : List Segment). byte_at m place) (cut-cons piece pieces memory) in
    let others = byte_at-cut-zero memory pieces place is in
    let same_length = length-bytes_from memory piece.start piece.len in
    elim (cases_lt place piece.start) [
      | inl before ↦ whole ∙ byte_at-others (cut_out memory piece) (cut pieces memory) place (byte_in-before (cut_out memory piece) place (unfold cut_out in before)) ∙ others
      | inr from ↦ elim (cases_lt place (piece.start + piece.len)) [
        | inl below ↦ whole ∙ byte_at-first (cut_out memory piece) (cut pieces memory) place (byte_at memory place) (cut_out-inside memory piece place (record { from = from; below = below })) ∙ is
        | inr behind ↦ whole ∙ byte_at-others (cut_out memory piece) (cut pieces memory) place (byte_in-behind (cut_out memory piece) place (unfold cut_out in omega arith)) ∙ others
      ]
    ]

-- what follows of each piece in which a place lies follows where it lies in one of them
at_the_one : (P : Piece → Type 0) (Q : Type 0) (place : ℕ) (pieces : List Piece) → ((piece : Piece) → P piece → LiesIn place piece → Q) → All P pieces → LiesInOne place pieces → Q
at_the_one P Q place [] follows are lies = absurd lies
at_the_one P Q place (piece ∷ pieces) follows are (inl here) = follows piece (All-head P piece pieces are) here
at_the_one P Q place (piece ∷ pieces) follows are (inr there) = at_the_one P Q place pieces follows (All-tail P piece pieces are) there

-- what is cut out has the memory's byte at each place that lies in a piece
byte_at-cut : (memory : List Segment) (pieces : List Piece) (place : ℕ) → LiesInOne place pieces → byte_at memory place ≡ byte_at (cut pieces memory) place
byte_at-cut memory pieces place lies =
    at_the_one (λ piece. (at : ℕ) → LiesIn at piece → byte_at memory at ≡ byte_at (cut pieces memory) at) (byte_at memory place ≡ byte_at (cut pieces memory) place) place pieces
    (λ piece same here. same place here) (cut_agrees memory pieces) lies

-- pieces that cover ranges serve for them
pub cover-serve : (pieces : List Piece) (memory : List Segment) (ranges : List Piece) → Cover pieces memory ranges → Serve pieces memory ranges
cover-serve pieces memory ranges covers =
    record {
      cover = covers;
      agree =
          All-weaker (λ (range : Piece). (place : ℕ) → LiesIn place range → place < memory_end memory → LiesInOne place pieces)
          (λ (range : Piece). (place : ℕ) → LiesIn place range → byte_at memory place ≡ byte_at (cut pieces memory) place)
          (λ range held place lies. elim (cases_lt place (memory_end memory)) [
            | inl within ↦ byte_at-cut memory pieces place (held place lies within)
            | inr past ↦ byte_at-past memory place past ∙ sym (byte_at-cut-zero memory pieces place (byte_at-past memory place past))
          ]) ranges covers;
    }

pub lies_left : (place : ℕ) (pieces others : List Piece) → LiesInOne place pieces → LiesInOne place (pieces ++ others)
lies_left place [] others lies = absurd lies
lies_left place (piece ∷ pieces) others (inl here) = inl here
lies_left place (piece ∷ pieces) others (inr there) = inr (lies_left place pieces others there)

pub lies_right : (place : ℕ) (pieces others : List Piece) → LiesInOne place others → LiesInOne place (pieces ++ others)
lies_right place [] others lies = lies
lies_right place (piece ∷ pieces) others lies = inr (lies_right place pieces others lies)

-- a place of a range before the end lies in the part before the end
pub lies_in_part : (end place : ℕ) (range : Piece) → LiesIn place range → place < end → LiesInOne place (part_before end range)
unfolding part_before
lies_in_part end place range lies within =
    let starts : range.start < end = omega (arith, lies.from, within) in
    let some : 0 < range.len = omega (arith, lies.from, lies.below) in
    let part : Piece = record { start = range.start; len = min range.len (end - range.start) } in
    let below : place < range.start + min range.len (end - range.start) = omega (arith, lies.from, lies.below, within) in
    let lies_in : LiesIn place part = record { from = lies.from; below = below } in
    let is = and_from (nat_lt range.start end) (nat_lt 0 range.len) (lt-ltb range.start end starts) (lt-ltb 0 range.len some) in
    subst (LiesInOne place) (sym (cond-true (nat_lt range.start end && nat_lt 0 range.len) (part ∷ []) [] is)) (inl lies_in)
