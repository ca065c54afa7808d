-- What the laws say of memories; own.
use Rattle.std.specs.Prelude.{◌≡◌, ℕ, ◌+◌, ◌-◌, ◌<◌, ◌≤◌, List, ◌∷◌, length, slice_index}
use Rattle.gl_memory.specs.Segment.{Segment, byte_at}
use Rattle.gl_memory.specs.ClientMemory.{memory_of, byte_written, written}

-- a place that the first segment holds has its byte, and the other places have those of the other segments; own
pub record ReadsFirst (first : Segment) (others : List Segment) (place : ℕ) : Type 0 where
  pub inside : first.start ≤ place → place < first.start + length first.bytes → byte_at (first ∷ others) place ≡ slice_index first.bytes (place - first.start)
  pub before : place < first.start → byte_at (first ∷ others) place ≡ byte_at others place
  pub behind : first.start + length first.bytes ≤ place → byte_at (first ∷ others) place ≡ byte_at others place

-- a memory that begins with a segment reads it first, at each place; own
abbrev pub FirstIsRead : List Segment → Type 0
FirstIsRead segments = (first : Segment) (others : List Segment) (place : ℕ) → segments ≡ first ∷ others → ReadsFirst first others place

-- each place of client memory has the byte that was written there, and each place past it 0; own
pub record ReadsBack (old : List ℕ) (at : ℕ) (bytes : List ℕ) : Type 0 where
  pub same_length : length (written old at bytes) ≡ length old
  pub inside : (place : ℕ) → place < length old → byte_at (memory_of (written old at bytes)) place ≡ byte_written old at bytes place
  pub outside : (place : ℕ) → length old ≤ place → byte_at (memory_of (written old at bytes)) place ≡ 0
