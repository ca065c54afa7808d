-- Whole numbers as 16.16 fixed numbers: rounded down, and clamped to 32 bits.
use Rattle.std.specs.Prelude.{ℕ, suc, ◌*ℤ◌, ◌-◌, ◌^◌, ◌≤◌, min, ℤ, pos, negsuc, neg_ℤ, unsigned_abs}
use Rattle.std.specs.Int.{int_div_euclid}

-- z lies from -n to n; own
pub record IsWithin (n : ℕ) (z : ℤ) : Type 0 where
  pub within : unsigned_abs z ≤ n

-- the number from -2^31 to 2^31 - 1 that is nearest to z; own
abbrev pub clamp_i32 : ℤ → ℤ
clamp_i32 (pos n) = pos (min n (2 ^ 31 - 1))
clamp_i32 (negsuc n) = negsuc (min n (2 ^ 31 - 1))

-- the greatest whole number that is at most a / b, where b is not zero; own
abbrev pub floor : ℤ → ℤ → ℤ
floor a (pos b) = int_div_euclid a (pos b)
floor a (negsuc b) = int_div_euclid (neg_ℤ a) (pos (suc b))

-- a sum of products of two 16.16 fixed numbers as one such number; own
unfoldable pub fx : ℤ → ℤ
fx n = clamp_i32 (floor n (pos 65536))

-- a / b as a 16.16 fixed number; own
unfoldable pub quotient_of : ℤ → ℤ → ℤ
quotient_of a b = clamp_i32 (floor (a *ℤ pos 65536) b)
