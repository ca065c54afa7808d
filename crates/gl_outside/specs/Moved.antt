-- What a call takes out of a source and adds to a sink or a shelf, where the object tells its content.
-- Of an object that tells nothing before the call, `Takes` and `Adds` say nothing.
use Rattle.std.specs.Prelude.{◌≡◌, ℕ, List, [], ◌++◌, Option, None, Some, IsSomeAnd, take, length, ◌≤◌}

-- what an object tells that tells nothing; own
abbrev pub untold : {X : Type 0} → Option (List X)
untold = None

-- these came off the front of what was left; own
unfoldable pub Takes : {X : Type 0} → Option (List X) → Option (List X) → List X → Type 0
Takes None new taken = Unit {0}
Takes (Some left) new taken = IsSomeAnd new (λ rest. left ≡ taken ++ rest)

-- these were put behind what was held; own
unfoldable pub Adds : {X : Type 0} → Option (List X) → Option (List X) → List X → Type 0
Adds None new added = Unit {0}
Adds (Some held) new added = new ≡ Some (held ++ added)

-- nothing is left; own
abbrev pub IsAtEnd : {X : Type 0} → Option (List X) → Type 0
IsAtEnd None = Unit {0}
IsAtEnd (Some left) = left ≡ []

-- the first so many of these were put behind what was held; own
pub record AddsPart {X : Type 0} (old new : Option (List X)) (whole : List X) : Type 0 where
  pub count : ℕ
  pub added : Adds old new (take count whole)

-- some came off the front of what was left, and at most so many; own
pub record TakesAtMost {X : Type 0} (most : ℕ) (old new : Option (List X)) : Type 0 where
  pub some : List X
  pub taken : Takes old new some
  pub few : length some ≤ most
