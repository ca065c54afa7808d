-- How far the counts of a front rise; own.
use Rattle.std.specs.Prelude.{ℕ, ◌+◌, ◌≤◌}
use Rattle.gl_front.specs.Front.{FrontView}

module _ {R : Type 0} (sends : R → ℕ) where
  -- no count of a front, nor of what its rail sent, is above this; own
  pub record IsLow (most : ℕ) (front : FrontView R) : Type 0 where
    pub deferred : front.counts.deferred ≤ most
    pub synchronised : front.counts.synchronised ≤ most
    pub answered : front.counts.answered ≤ most
    pub batches : front.counts.batches ≤ most
    pub sent : sends front.rail ≤ most

  -- wherever no count was above some number, none is above that and this together; own
  abbrev pub RisesBy : ℕ → FrontView R → FrontView R → Type 0
  RisesBy rise old new = (most : ℕ) → IsLow most old → IsLow (most + rise) new
