-- What a call reads of memory, and which memories are the same to it; own. Which call reads what stands in Step.antt.
use Rattle.std.specs.Prelude.{◌≡◌, ℕ, List}
use Rattle.gl_memory.specs.Piece.{Agree}
use Rattle.gl_memory.specs.Segment.{Segment, byte_at}
use Rattle.gl_memory.specs.declared.piece.Piece.{Piece}

-- the bytes in ranges of places, or every byte: no list of ranges has each place of every memory; section 2.8
pub data Reads : Type 0 where
  Ranges : List Piece → Reads
  Everything : Reads

-- two memories have the same byte at each place that is read; own
abbrev pub AgreesOn : List Segment → List Segment → Reads → Type 0
AgreesOn m n (Ranges ranges) = Agree m n ranges
AgreesOn m n Everything = (place : ℕ) → byte_at m place ≡ byte_at n place
