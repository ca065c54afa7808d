-- What a rail whose batches a worker carries out stands for; own.
use Rattle.std.specs.Prelude.{◌≡◌, ◌≤◌, ◌⊎◌, true, false, List, length, drop, Option, Some, None}
use Rattle.rtrb.specs.Ring.{received, sent}
use Rattle.batch_pack.specs.Batch.{BatchView}
use Rattle.batch_pack.specs.Spelling.{Spelled}
use Rattle.driver_trait.specs.Driver.{Steps}
use Rattle.epoch_rail.specs.Ends.{AreFellows}
use Rattle.epoch_rail.specs.Work.{calls_of, RunAll, HaveCall}
use Rattle.epoch_rail.specs.declared.ends.CallerEnds.{CallerEnds}
use Rattle.epoch_rail.specs.declared.work.Work.{Work}
use Rattle.epoch_rail.specs.declared.stage.Stage.{Stage}
use Rattle.epoch_rail.specs.declared.stage.Stage.TheVariants.{Home, Away, Taken}

-- the batches that a work has to carry out, of those that were sent; own
unfoldable pub left_of : {S : Type 0} → Work S → List BatchView → List (List Spelled)
left_of work batches = calls_of (drop (length (received work.ends.filled)) batches)

-- a work leads to this state by what is left to it; own
abbrev pub LeadsTo : {S : Type 0} → Steps S → Work S → List BatchView → S → Type 0
LeadsTo steps work batches st = (work.failed ≡ false) × RunAll steps work.driver (left_of work batches) st

-- a work may have failed by what is left to it; own
abbrev pub MayFail : {S : Type 0} → Work S → List BatchView → Type 0
MayFail work batches = (work.failed ≡ true) ⊎ HaveCall (left_of work batches)

-- a work has the ends of a caller's rings, and took no more than was sent; own
pub record IsWorkOf {S : Type 0} (caller : CallerEnds) (work : Work S) : Type 0 where
  pub fellows : AreFellows caller work.ends
  pub within : length (received work.ends.filled) ≤ length (sent caller.filled)

-- the driver may be in this state, once what was sent is carried out; own
abbrev pub StandsFor : {S H : Type 0} → Steps S → (H → Work S) → Option (Stage S H) → List BatchView → S → Type 0
StandsFor steps was None batches st = ⊥
StandsFor steps was (Some (Home work)) batches st = LeadsTo steps work batches st
StandsFor steps was (Some (Away worker)) batches st = LeadsTo steps (was worker) batches st
StandsFor steps was (Some (Taken ends)) batches st = ⊥

-- the driver may have been refused memory; own
abbrev pub FailsBy : {S H : Type 0} → (H → Work S) → Option (Stage S H) → List BatchView → Type 0
FailsBy was None batches = ⊥
FailsBy was (Some (Home work)) batches = MayFail work batches
FailsBy was (Some (Away worker)) batches = MayFail (was worker) batches
FailsBy was (Some (Taken ends)) batches = ⊥

-- the driver is with the caller, or with a worker; own
abbrev pub IsHome : {S H : Type 0} → (H → Work S) → Option (Stage S H) → CallerEnds → Type 0
IsHome was None caller = ⊥
IsHome was (Some (Home work)) caller = IsWorkOf caller work
IsHome was (Some (Away worker)) caller = IsWorkOf caller (was worker)
IsHome was (Some (Taken ends)) caller = ⊥

-- the driver was taken, all that was sent being carried out; own
abbrev pub IsTaken : {S H : Type 0} → Option (Stage S H) → CallerEnds → Type 0
IsTaken None caller = ⊥
IsTaken (Some (Home work)) caller = ⊥
IsTaken (Some (Away worker)) caller = ⊥
IsTaken (Some (Taken ends)) caller = AreFellows caller ends × (received ends.filled ≡ sent caller.filled)
