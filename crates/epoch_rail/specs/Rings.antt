-- What batches go through a ring: each has the size of the first; own.
use Rattle.std.specs.Prelude.{◌≡◌, ℕ, ◌<◌, List, [], ◌∷◌, length}
use Rattle.batch_pack.specs.Batch.{BatchView}

-- the size of the first of some batches, and this size where there is none; own
unfoldable pub first_size : ℕ → List BatchView → ℕ
first_size size [] = size
first_size size (first ∷ others) = first.size

-- a batch has the size of the first that went before it; own
abbrev pub HasFirstSize : List BatchView → BatchView → Type 0
HasFirstSize before batch = first_size batch.size before ≡ batch.size

-- the first of some batches has this size, if there is one; own
abbrev pub MayBegin : ℕ → List BatchView → Type 0
MayBegin size batches = first_size size batches ≡ size

-- there is a first of some batches, and it has this size; own
pub record Begins (size : ℕ) (batches : List BatchView) : Type 0 where
  pub some : 0 < length batches
  pub first : MayBegin size batches
