-- Counts that rise little at each call.
use Rattle.std.proofs.Common.{◌≡◌, ℕ, ◌+◌, ◌-◌, ◌^◌, ◌≤◌, List, sym, subst, arith}
use Rattle.gl_front.specs.Front.{FrontView, AllHaveRoom, new_front}
use Rattle.gl_front.specs.Taking.{KeepsCount}
use Rattle.frame_loop.specs.Counts.{IsLow, RisesBy}

module _ {R : Type 0} (sends : R → ℕ) where
  -- a call raises each count by two at most
  pub rises_little : (old new : FrontView R) → KeepsCount sends old new → RisesBy sends 2 old new
  rises_little old new keeps = λ most low. record {
    deferred = omega (arith, low.deferred, keeps.counts.deferred.at_most_two);
    synchronised = omega (arith, low.synchronised, keeps.counts.synchronised.at_most_two);
    answered = omega (arith, low.answered, keeps.counts.answered.at_most_two);
    batches = omega (arith, low.batches, keeps.counts.batches.at_most_two);
    sent = omega (arith, low.sent, keeps.sent, keeps.counts.batches.at_most_two);
  }

  -- what is low is below anything higher
  pub IsLow-up_to : (low high : ℕ) (front : FrontView R) → low ≤ high → IsLow sends low front → IsLow sends high front
  IsLow-up_to low high front up is_low = record {
    deferred = omega (arith, up, is_low.deferred);
    synchronised = omega (arith, up, is_low.synchronised);
    answered = omega (arith, up, is_low.answered);
    batches = omega (arith, up, is_low.batches);
    sent = omega (arith, up, is_low.sent);
  }

  -- what rises twice rises by both
  pub rises_on : (first second rise : ℕ) (old mid new : FrontView R) → first + second ≤ rise → RisesBy sends first old mid → RisesBy sends second mid new
      → RisesBy sends rise old new
  rises_on first second rise old mid new both so_far more = λ most low.
      IsLow-up_to (most + first + second) (most + rise) new (omega (arith, both)) (more (most + first) (so_far most low))

  -- what rises little rises by no more than something greater
  pub rises_within : (rise more : ℕ) (old new : FrontView R) → rise ≤ more → RisesBy sends rise old new → RisesBy sends more old new
  rises_within rise more old new up rises = λ most low. IsLow-up_to (most + rise) (most + more) new (omega (arith, up)) (rises most low)

  -- low counts have room for a call
  pub has_room : (front : FrontView R) → IsLow sends (2 ^ 62 - 2) front → AllHaveRoom front.counts
  has_room front low = record {
    deferred = omega (arith, low.deferred);
    synchronised = omega (arith, low.synchronised);
    answered = omega (arith, low.answered);
    batches = omega (arith, low.batches);
  }

  -- nothing is counted yet of a new front over a rail that has sent nothing
  pub new_is_low : (rail : R) (size : ℕ) (memory : List ℕ) (front : FrontView R) → front ≡ new_front rail size memory → sends rail ≡ 0 → IsLow sends 0 front
  new_is_low rail size memory front is_new none = subst (λ (f : FrontView R). IsLow sends 0 f) (sym is_new) (record {
    deferred = omega arith;
    synchronised = omega arith;
    answered = omega arith;
    batches = omega arith;
    sent = omega (arith, none);
  })
