-- What the laws say of pieces: what is read lies in them, and what is cut out serves in the place of memory; own.
use Rattle.std.specs.Prelude.{ℕ, ◌<◌, List, [], ◌∷◌, ◌⊎◌, All}
use Rattle.gl_memory.specs.declared.piece.Piece.{Piece}
use Rattle.gl_memory.specs.Segment.{Segment}
use Rattle.gl_memory.specs.Piece.{LiesIn, Agree, cut}
use Rattle.array_capture.specs.Pieces.{memory_end}

-- a place lies in one of some pieces; own
abbrev pub LiesInOne : ℕ → List Piece → Type 0
LiesInOne place [] = ⊥
LiesInOne place (piece ∷ pieces) = LiesIn place piece ⊎ LiesInOne place pieces

-- each place of a range that lies before the end of memory lies in one of some pieces; own
abbrev pub Cover : List Piece → List Segment → List Piece → Type 0
Cover pieces memory ranges = All (λ range. (place : ℕ) → LiesIn place range → place < memory_end memory → LiesInOne place pieces) ranges

-- pieces of a memory serve for ranges: they cover them, and what is cut out has the memory's byte at each place of them; own
pub record Serve (pieces : List Piece) (memory : List Segment) (ranges : List Piece) : Type 0 where
  pub cover : Cover pieces memory ranges
  pub agree : Agree memory (cut pieces memory) ranges
