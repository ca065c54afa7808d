use Rattle.std.proofs.Common.{◌≡◌, ◌≤◌, ◌<◌, ◌^◌, ℕ, length}
use Rattle.triangle_raster.specs.Vertex.{IsWithin}
use Rattle.triangle_raster.specs.Pixel.{weighted}
use Rattle.triangle_raster.specs.Carry.{IsCarry}
use Rattle.triangle_raster.specs.Held.{sums_seen}
use Rattle.triangle_raster.specs.Ranges.{number_at}
use Rattle.triangle_raster.proofs.carry.Carries.of_values.Given as goal

-- those before k are carries, and the others the first corner's values
abbrev pub invariant-loop-k : goal.invariant-loop-k
invariant-loop-k l = record {
  ten_values : length l.values ≡ 10;
  ten_remainders : length l.remainders ≡ 10;
  so_far : (j : ℕ) → j < l.k → IsCarry l.whole (weighted (sums_seen l.sums) (number_at l.a j) (number_at l.b j) (number_at l.c j)) (number_at l.values j) (number_at l.remainders j)
      × IsWithin (2 ^ 29) (number_at l.values j);
  same_values : (j : ℕ) → l.k ≤ j → number_at l.values j ≡ number_at l.a j;
}
