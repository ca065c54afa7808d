-- What every reader, every batch and the segments of a call keep of their slots; own.
use Rattle.std.specs.Prelude.{◌≡◌, ℕ, ◌≤◌, List, ◌++◌, length}
use Rattle.std.specs.List.{flat_map, AllByRecursion}
use Rattle.batch_pack.specs.Spelling.{segment_spelling, IsSegment, spellings_of, HaveSpellings}
use Rattle.batch_pack.specs.Decoding.{segments_at, calls_in}
use Rattle.batch_pack.specs.Batch.{IsBatchSize}

-- slots are the spellings of the calls that are read from them; own
pub record AreReadable (slots : List ℕ) : Type 0 where
  pub have : HaveSpellings (calls_in slots)
  pub spelled : slots ≡ spellings_of (calls_in slots)

-- slots begin with the spellings of the segments that are read from them, so many and at most 8; own
pub record BeginWith (count : ℕ) (slots : List ℕ) : Type 0 where
  pub few : count ≤ 8
  pub are : AllByRecursion IsSegment (segments_at count slots)
  pub spelled : (more : List ℕ) × (slots ≡ flat_map segment_spelling (segments_at count slots) ++ more)

-- a batch's slots are spellings, at most as many as its size, and its room is enough for its size; own
pub record IsHolding (slots : List ℕ) (room size : ℕ) : Type 0 where
  pub readable : AreReadable slots
  pub of_size : IsBatchSize size
  pub within : length slots ≤ size
  pub has_room : size ≤ room
