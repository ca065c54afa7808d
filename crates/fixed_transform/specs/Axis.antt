-- The length of an axis, and its parts over that length.
use Rattle.std.specs.Prelude.{ℕ, zero, suc, ◌+◌, ◌*◌, nat_le, ℤ, pos, ◌*ℤ◌, unsigned_abs, if◌then◌else◌}
use Rattle.fixed_transform.specs.Fixed.{floor}

-- the greatest number of at most k whose square is at most n; own
abbrev pub greatest_root : ℕ → ℕ → ℕ
greatest_root n zero = zero
greatest_root n (suc k) = if nat_le (suc k * suc k) n then suc k else greatest_root n k

-- the greatest number whose square is at most n: the square root of n, rounded down; own
unfoldable pub floor_root : ℕ → ℕ
floor_root n = greatest_root n n

-- the length of an axis, rounded down; own
unfoldable pub length_of : ℤ → ℤ → ℤ → ℕ
length_of x y z = floor_root (unsigned_abs x * unsigned_abs x + unsigned_abs y * unsigned_abs y + unsigned_abs z * unsigned_abs z)

-- a part of an axis over its length, in 16.16 fixed; own
unfoldable pub unit_part : ℤ → ℕ → ℤ
unit_part part length = floor (part *ℤ pos 65536) (pos length)
