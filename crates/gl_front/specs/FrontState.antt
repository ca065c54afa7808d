-- What the fields of a front keep.
use Rattle.std.specs.Prelude.{◌≡◌, ℕ, List, [], Option, Some, None, MatchOption}
use Rattle.batch_pack.specs.Spelling.{Spelled}
use Rattle.batch_pack.specs.Batch.{BatchView, IsBatchSize}

-- the calls of the open batch, which is there between two calls of a front
abbrev pub open_calls : Option BatchView → List Spelled
open_calls None = []
open_calls (Some batch) = batch.calls

-- the open batch is there and is of the rail's size, and the driver is with the rail (that it holds no more, the batch's own type keeps); own
pub record IsReady (home : Type 0) (size : ℕ) (batch : Option BatchView) : Type 0 where
  pub at_home : home
  pub batch_size : IsBatchSize size
  pub is_there : MatchOption batch ⊥ (λ b. b.size ≡ size)
