-- Pieces of memory: what they are, what memories have the same bytes there, and what is cut out; own.
use Rattle.std.specs.Prelude.{◌≡◌, ℕ, ◌+◌, ◌^◌, ◌≤◌, ◌<◌, List, map, All}
use Rattle.std.specs.List.{range_with_len}
use Rattle.gl_memory.specs.declared.piece.Piece.{Piece}
use Rattle.gl_memory.specs.Segment.{Segment, byte_at}

-- a piece has a byte at least, and ends at or below 2^62; own
pub record IsPiece (piece : Piece) : Type 0 where
  pub some : 1 ≤ piece.len
  pub end : piece.start + piece.len ≤ 2 ^ 62

-- a place lies in a range of places; own
pub record LiesIn (place : ℕ) (range : Piece) : Type 0 where
  pub from : range.start ≤ place
  pub below : place < range.start + range.len

-- two memories have the same byte at each place of each range; own
abbrev pub Agree : List Segment → List Segment → List Piece → Type 0
Agree m n ranges = All (λ range. (place : ℕ) → LiesIn place range → byte_at m place ≡ byte_at n place) ranges

-- so many bytes of a memory from a place on; own
unfoldable pub bytes_from : List Segment → ℕ → ℕ → List ℕ
bytes_from memory start len = map (byte_at memory) (range_with_len start len)

-- a piece of a memory, as a segment of the memory's bytes; own
unfoldable pub cut_out : List Segment → Piece → Segment
cut_out memory piece = record { start = piece.start; bytes = bytes_from memory piece.start piece.len }

-- pieces of a memory, each as a segment of the memory's bytes; own
unfoldable pub cut : List Piece → List Segment → List Segment
cut pieces memory = map (cut_out memory) pieces
