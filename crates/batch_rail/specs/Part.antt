-- What a rail is used for; own.
use Rattle.std.specs.Prelude.{Option, List, ℕ}
use Rattle.batch_pack.specs.Spelling.{Spelled}
use Rattle.gl_tracked.specs.declared.tracked.Tracked.{Tracked}
use Rattle.batch_rail.specs.Maker.{IsLaunched, IsUnused}
use Rattle.batch_rail.specs.Rail.{Gains}

-- a rail was launched with a driver of which this holds, and has done nothing yet; own
pub record IsReady {D : Type 0} (tracked : D → Tracked) (ready stands : D → Type 0) (failed home : Type 0) (size sent slots : ℕ) : Type 0 where
  pub driver : D
  pub taken_on : ready driver
  pub launched : IsLaunched tracked stands failed home size (tracked driver)
  pub unused : IsUnused stands size sent driver slots

-- some batches were submitted, and a journal gained just these: with them each state of the second kind was reached from one of the first; own
pub record IsUsed {D : Type 0} (leads : D → List (List Spelled) → D → Type 0) (before after : D → Type 0) (old new : Option (List (List Spelled))) : Type 0 where
  pub batches : List (List Spelled)
  pub led : (st2 : D) → after st2 → (st : D) × before st × leads st batches st2
  pub gained : Gains old new batches
