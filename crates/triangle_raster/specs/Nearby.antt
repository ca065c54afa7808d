-- Weights that are numbers of 64 bits, for private clauses.
use Rattle.std.specs.Prelude.{◌≡◌, ◌^◌, pos, ◌+ℤ◌, ◌<ℤ◌, ◌≤ℤ◌}
use Rattle.triangle_raster.specs.declared.near.Near.{Near}
use Rattle.triangle_raster.specs.Vertex.{IsWithin}
use Rattle.triangle_raster.specs.Pixel.{Weights}

-- such weights as weights
abbrev pub near_seen : Near → Weights
near_seen n = record { one = n.one; two = n.two; three = n.three }

-- all together are above zero and have at most 63 bits, and the reciprocal and the upper bits of the weights are short
pub record IsSmallWhole (n : Near) : Type 0 where
  pub some : pos 0 <ℤ n.whole
  pub few : n.whole ≤ℤ pos (2 ^ 62)
  pub short_one : IsWithin (2 ^ 32) n.upper_one
  pub short_two : IsWithin (2 ^ 32) n.upper_two
  pub short_three : IsWithin (2 ^ 32) n.upper_three
  pub short_factor : IsWithin (2 ^ 33) n.factor

-- no weight is below zero or above all together
pub record AreSmallSums (n : Near) : Type 0 where
  pub whole_holds : IsSmallWhole n
  pub whole_is : n.whole ≡ n.one +ℤ n.two +ℤ n.three
  pub from_one : pos 0 ≤ℤ n.one
  pub from_two : pos 0 ≤ℤ n.two
  pub from_three : pos 0 ≤ℤ n.three
