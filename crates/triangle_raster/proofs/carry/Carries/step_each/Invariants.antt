use Rattle.std.proofs.Common.{◌≡◌, ◌≤◌, ◌<◌, ℕ, ℤ, ◌+ℤ◌, length}
use Rattle.triangle_raster.specs.Carry.{IsCarry}
use Rattle.triangle_raster.specs.Ranges.{number_at}
use Rattle.triangle_raster.proofs.carry.Carries.step_each.Given as goal

-- those before k have gone on, and the others are as they were
abbrev pub invariant-loop-k : goal.invariant-loop-k
invariant-loop-k l = record {
  ten_values : length l.self.values ≡ 10;
  ten_remainders : length l.self.remainders ≡ 10;
  so_far : (j : ℕ) → j < l.k → (m n : ℤ) → IsCarry l.whole m (number_at l.initial.self.values j) (number_at l.initial.self.remainders j)
      → IsCarry l.whole n (number_at l.steps.values j) (number_at l.steps.remainders j)
      → IsCarry l.whole (m +ℤ n) (number_at l.self.values j) (number_at l.self.remainders j);
  same_values : (j : ℕ) → l.k ≤ j → number_at l.self.values j ≡ number_at l.initial.self.values j;
  same_remainders : (j : ℕ) → l.k ≤ j → number_at l.self.remainders j ≡ number_at l.initial.self.remainders j;
}
