-- Quotients with what is left of their divisions, as the code keeps them.
use Rattle.std.specs.Prelude.{◌≡◌, ◌<◌, ℕ, ℤ, pos, ◌+ℤ◌, ◌*ℤ◌, ◌<ℤ◌, ◌≤ℤ◌}
use Rattle.triangle_raster.specs.declared.carry.Carries.{Carries}
use Rattle.triangle_raster.specs.Ranges.{number_at}

-- what may be left of a division by a whole
pub record IsLeft (whole remainder : ℤ) : Type 0 where
  pub from_zero : pos 0 ≤ℤ remainder
  pub below : remainder <ℤ whole

-- a number is so many times the whole, and that is left
pub record IsCarry (whole number quotient remainder : ℤ) : Type 0 where
  pub split : number ≡ whole *ℤ quotient +ℤ remainder
  pub left : IsLeft whole remainder

-- the first of ten quotients and remainders are those of these numbers
pub record AreCarries (whole : ℤ) (count : ℕ) (numbers : ℕ → ℤ) (c : Carries) : Type 0 where
  pub each : (k : ℕ) → k < count → IsCarry whole (numbers k) (number_at c.values k) (number_at c.remainders k)
