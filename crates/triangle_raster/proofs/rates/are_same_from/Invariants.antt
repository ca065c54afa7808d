use Rattle.std.proofs.Common.{◌≡◌, ◌≤◌, ◌<◌, ℕ}
use Rattle.triangle_raster.specs.Ranges.{number_at}
use Rattle.triangle_raster.proofs.rates.are_same_from.Given as goal

-- the values so far are the same
abbrev pub invariant-loop-k : goal.invariant-loop-k
invariant-loop-k l = (j : ℕ) → l.start ≤ j → j < l.k → (number_at l.a j ≡ number_at l.b j) × (number_at l.a j ≡ number_at l.c j)
