-- Where a driver is led by the calls of a batch, each on the memory that was captured for it; own.
use Rattle.std.specs.Prelude.{◌≡◌, ℕ, zero, suc, Bool, true, false, List, [], ◌∷◌, ◌++◌, Option, Some}
use Rattle.std.specs.List.{slice_get}
use Rattle.batch_pack.specs.Spelling.{Spelled}
use Rattle.driver_trait.specs.Driver.{Steps}
use Rattle.driver_trait.specs.Reply.{Replied}

-- a state leads to another by these calls, one after the other, each on its segments and whatever it replies; own
abbrev pub Run : {S : Type 0} → Steps S → S → List Spelled → S → Type 0
Run steps st [] st2 = st2 ≡ st
Run {S} steps st (call ∷ calls) st2 = (mid : S) × (reply : Replied) × steps st call.call call.segments mid reply × Run steps mid calls st2

-- a state to which one of these states leads by these calls; own
pub record RunsFrom {S : Type 0} (starts : S → Type 0) (steps : Steps S) (calls : List Spelled) (st2 : S) : Type 0 where
  pub start : S
  pub may_start : starts start
  pub run : Run steps start calls st2

-- a state that was reached by the first calls of a batch: the call behind them was refused, and none after it was carried out; own
pub record StopsInside {S : Type 0} (steps : Steps S) (start : S) (calls : List Spelled) (here : S) : Type 0 where
  pub done : List Spelled
  pub refused : Spelled
  pub left_out : List Spelled
  pub whole : calls ≡ done ++ refused ∷ left_out
  pub run : Run steps start done here

-- where a batch is the first that failed, its driver, which is here before and after, stopped inside it; own
abbrev pub StopsOnce : {S : Type 0} → Steps S → Bool → Option S → List Spelled → Bool → Option S → Type 0
StopsOnce {S} steps failed before calls fails after =
    failed ≡ false → fails ≡ true → (start here : S) → before ≡ Some start → after ≡ Some here → StopsInside steps start calls here

-- a state leads to another by the first so many batches of a list, one after the other; own
abbrev pub RunFirst : {S : Type 0} → Steps S → S → List (List Spelled) → ℕ → S → Type 0
RunFirst steps st batches zero st2 = st2 ≡ st
RunFirst {S} steps st batches (suc count) st2 =
    (mid : S) × (batch : List Spelled) × RunFirst steps st batches count mid × (slice_get batches count ≡ Some batch) × Run steps mid batch st2
