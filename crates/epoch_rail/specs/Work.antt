-- What a worker carries out; own.
use Rattle.std.specs.Prelude.{◌≡◌, ◌≢◌, ◌⊎◌, Bool, true, false, List, [], ◌∷◌, ◌++◌, map, length, flat_map}
use Rattle.rtrb.specs.Ring.{received}
use Rattle.epoch_rail.specs.Ends.{SameWorker}
use Rattle.batch_pack.specs.Batch.{BatchView}
use Rattle.batch_pack.specs.Spelling.{Spelled}
use Rattle.driver_trait.specs.Driver.{Steps}
use Rattle.batch_rail.specs.Run.{Run, RunFirst, StopsInside}
use Rattle.epoch_rail.specs.declared.work.Work.{Work}

-- the calls of each batch; own
unfoldable pub calls_of : List BatchView → List (List Spelled)
calls_of batches = map (λ (b : BatchView). b.calls) batches

-- a state leads to another by all batches of a list, one after the other; own
abbrev pub RunAll : {S : Type 0} → Steps S → S → List (List Spelled) → S → Type 0
RunAll steps st batches st2 = RunFirst steps st batches (length batches) st2

-- one of some batches has a call; own
abbrev pub HaveCall : List (List Spelled) → Type 0
HaveCall batches = flat_map (λ (calls : List Spelled). calls) batches ≢ []

-- a batch was carried out, unless one failed before, or it failed itself, or it was only given back; own
pub record CarriedOne {S : Type 0} (steps : Steps S) (failed : Bool) (driver : S) (calls : List Spelled) (fails : Bool) (after : S) : Type 0 where
  pub runs : fails ≡ false → (failed ≡ false) × Run steps driver calls after
  pub cause : fails ≡ true → (failed ≡ true) ⊎ (calls ≢ [])
  pub stops : failed ≡ false → fails ≡ true → StopsInside steps driver calls after
  pub stays : failed ≡ true → (fails ≡ true) × (after ≡ driver)

-- a state that was reached by the first batches of a list, and inside the next one: nothing behind the call that was refused was carried out; own
pub record StopsAmong {S : Type 0} (steps : Steps S) (start : S) (batches : List (List Spelled)) (here : S) : Type 0 where
  pub done : List (List Spelled)
  pub refused : List Spelled
  pub left_out : List (List Spelled)
  pub whole : batches ≡ done ++ refused ∷ left_out
  pub reached : S
  pub run : RunAll steps start done reached
  pub stops : StopsInside steps reached refused here

-- between two times a worker received these batches and carried them out in order, each once, up to the call that was refused, if one was, and none if one had been; own
pub record Carried {S : Type 0} (steps : Steps S) (before after : Work S) : Type 0 where
  pub ran : List BatchView
  pub took : received after.ends.filled ≡ received before.ends.filled ++ ran
  pub same : SameWorker before.ends after.ends
  pub runs : after.failed ≡ false → (before.failed ≡ false) × RunAll steps before.driver (calls_of ran) after.driver
  pub cause : after.failed ≡ true → (before.failed ≡ true) ⊎ HaveCall (calls_of ran)
  pub stops : before.failed ≡ false → after.failed ≡ true → StopsAmong steps before.driver (calls_of ran) after.driver
  pub stays : before.failed ≡ true → (after.failed ≡ true) × (after.driver ≡ before.driver)

-- what was carried out before goes on; own
abbrev pub GoesOn : {S : Type 0} → Steps S → Work S → Work S → Type 0
GoesOn {S} steps before after = (start : Work S) → Carried steps start before → Carried steps start after
