use Rattle.std.proofs.Common.{◌≡◌, ℕ, ◌<◌, pos, length, get_or}
use Rattle.triangle_raster.specs.Pixel.{mean}
use Rattle.triangle_raster.specs.Held.{sums_seen}
use Rattle.triangle_raster.proofs.fragment.far_values.Given as goal

abbrev pub invariant-loop-k : goal.invariant-loop-k
invariant-loop-k l = record {
  size : length l.values ≡ 10;
  so_far : (k : ℕ) → k < l.k → get_or l.values k (pos 0) ≡ mean (sums_seen l.sums) (get_or l.a k (pos 0)) (get_or l.b k (pos 0)) (get_or l.c k (pos 0));
}
