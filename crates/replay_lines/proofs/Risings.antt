-- Counts that rise little at each line.
use Rattle.std.proofs.Common.{ℕ, ◌+◌, ◌*◌, ◌≤◌, arith}
use Rattle.gl_front.specs.declared.counts.Counts.{Counts}
use Rattle.gl_front.specs.Front.{RisesLittle, AllRiseLittle}
use Rattle.replay_lines.specs.Limits.{RisesBy, AllRiseBy}

-- no line, one more, and those that are passed over
pub RisesBy-none : (count : ℕ) → RisesBy count count (2 * 0)
RisesBy-none count = record { never_falls = omega arith; at_most = omega arith }

pub RisesBy-more : (i old mid new : ℕ) → RisesBy old mid (2 * i) → RisesLittle mid new → RisesBy old new (2 * (i + 1))
RisesBy-more i old mid new so_far more = record { never_falls = omega (arith, so_far.never_falls, more.never_falls); at_most = omega (arith, so_far.at_most, more.at_most_two) }

pub RisesBy-up_to : (most more old new : ℕ) → most ≤ more → RisesBy old new (2 * most) → RisesBy old new (2 * more)
RisesBy-up_to most more old new up so_far = record { never_falls = so_far.never_falls; at_most = omega (arith, so_far.at_most, up) }

pub AllRiseBy-none : (counts : Counts) → AllRiseBy counts counts (2 * 0)
AllRiseBy-none counts = record { deferred = RisesBy-none counts.deferred; synchronised = RisesBy-none counts.synchronised; answered = RisesBy-none counts.answered; batches = RisesBy-none counts.batches }

pub AllRiseBy-more : (i : ℕ) (old mid new : Counts) → AllRiseBy old mid (2 * i) → AllRiseLittle mid new → AllRiseBy old new (2 * (i + 1))
AllRiseBy-more i old mid new so_far more = record {
  deferred = RisesBy-more i old.deferred mid.deferred new.deferred so_far.deferred more.deferred;
  synchronised = RisesBy-more i old.synchronised mid.synchronised new.synchronised so_far.synchronised more.synchronised;
  answered = RisesBy-more i old.answered mid.answered new.answered so_far.answered more.answered;
  batches = RisesBy-more i old.batches mid.batches new.batches so_far.batches more.batches;
}

pub AllRiseBy-up_to : (most more : ℕ) (old new : Counts) → most ≤ more → AllRiseBy old new (2 * most) → AllRiseBy old new (2 * more)
AllRiseBy-up_to most more old new up so_far = record {
  deferred = RisesBy-up_to most more old.deferred new.deferred up so_far.deferred;
  synchronised = RisesBy-up_to most more old.synchronised new.synchronised up so_far.synchronised;
  answered = RisesBy-up_to most more old.answered new.answered up so_far.answered;
  batches = RisesBy-up_to most more old.batches new.batches up so_far.batches;
}
