-- What a maker of rails promises; own.
use Rattle.std.specs.Prelude.{◌≡◌, ◌≢◌, ℕ, ◌≤◌, List, [], Option}
use Rattle.batch_pack.specs.Batch.{IsBatchSize}
use Rattle.batch_pack.specs.Spelling.{Spelled}
use Rattle.gl_tracked.specs.declared.tracked.Tracked.{Tracked}
use Rattle.batch_rail.specs.Rail.{Gains}

-- lengths of rings: 1 to 64 batches; own
pub record IsRingLength (ring : ℕ) : Type 0 where
  pub at_least : 1 ≤ ring
  pub at_most : ring ≤ 64

-- the lists of the other contexts are as they were, as far as they are told; own
abbrev pub KeepsOthers : (ℕ → Option (List (List Spelled))) → (ℕ → Option (List (List Spelled))) → ℕ → Type 0
KeepsOthers old new context = (other : ℕ) → other ≢ context → Gains (old other) (new other) []

-- a rail as it is launched, and as a front takes it: of a size that batches may have, its driver at home, not failed, and in each state for which it may stand with this tracked part; own
pub record IsLaunched {D : Type 0} (tracked : D → Tracked) (stands : D → Type 0) (failed home : Type 0) (size : ℕ) (first : Tracked) : Type 0 where
  pub batch_size : IsBatchSize size
  pub at_home : home
  pub sound : ¬ failed
  pub known : (st : D) → stands st → tracked st ≡ first

-- a rail that has done nothing yet: of this size, with no batch sent, standing for this state alone; own
pub record IsUnused {D : Type 0} (stands : D → Type 0) (size sent : ℕ) (driver : D) (slots : ℕ) : Type 0 where
  pub of_size : size ≡ slots
  pub none_sent : sent ≡ 0
  pub only : (st : D) → stands st → st ≡ driver
