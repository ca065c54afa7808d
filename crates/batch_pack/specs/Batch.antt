-- What contracts see of a batch: its size in slots and its calls, in order; own.
use Rattle.std.specs.Prelude.{ℕ, ◌-◌, ◌≤◌, List, [], length}
use Rattle.gl_memory.specs.declared.piece.Piece.{Piece}
use Rattle.gl_memory.specs.ClientMemory.{memory_of}
use Rattle.gl_memory.specs.Piece.{cut}
use Rattle.gl_words.specs.declared.call.Call.{Call}
use Rattle.batch_pack.specs.Spelling.{Spelled, spellings_of}

-- a batch holds calls with their segments in at most so many slots; own
pub record BatchView : Type 0 where
  pub size : ℕ
  pub calls : List Spelled

-- a call with the pieces of client memory that are captured for it; own
abbrev pub captured : Call → List Piece → List ℕ → Spelled
captured call pieces bytes = record { call = call; segments = cut pieces (memory_of bytes) }

-- how many slots calls take; own
unfoldable pub slots_used : List Spelled → ℕ
slots_used calls = length (spellings_of calls)

-- how many slots a batch has left; own
unfoldable pub slots_left : BatchView → ℕ
slots_left batch = batch.size - slots_used batch.calls

-- a batch of so many slots without calls; own
abbrev pub empty_batch : ℕ → BatchView
empty_batch size = record { size = size; calls = [] }

-- sizes of batches: 16 to 8192 slots; own
pub record IsBatchSize (slots : ℕ) : Type 0 where
  pub at_least : 16 ≤ slots
  pub at_most : slots ≤ 8192
