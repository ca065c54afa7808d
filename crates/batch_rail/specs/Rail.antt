-- What a rail may tell of the batches that were submitted to it, and what one without threads stands for; own.
use Rattle.std.specs.Prelude.{◌≡◌, ◌++◌, Bool, false, Option, Some, List}
use Rattle.batch_pack.specs.Spelling.{Spelled}

-- a list of batches that is told now was told before, and has gained these; own
abbrev pub Gains : Option (List (List Spelled)) → Option (List (List Spelled)) → List (List Spelled) → Type 0
Gains old new more = (now : List (List Spelled)) → new ≡ Some now → (before : List (List Spelled)) × (old ≡ Some before) × (now ≡ before ++ more)

-- a list of batches that is told now was told before, and has gained some batches; own
abbrev pub GainsSome : Option (List (List Spelled)) → Option (List (List Spelled)) → Type 0
GainsSome old new = (more : List (List Spelled)) × Gains old new more

-- every state for which the new one may stand is one for which the old one may; own
abbrev pub StandsForNoMore : {S : Type 0} → (S → Type 0) → (S → Type 0) → Type 0
StandsForNoMore {S} old new = (st : S) → new st → old st

-- no batch failed, and the driver is here in this state; own
abbrev pub HasDriver : {S : Type 0} → Bool → Option S → S → Type 0
HasDriver failed driver st = (failed ≡ false) × (driver ≡ Some st)
