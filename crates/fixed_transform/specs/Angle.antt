-- Sines and cosines of angles in degrees, all 16.16 fixed.
use Rattle.std.specs.Prelude.{ℕ, ◌+◌, ◌-◌, ◌*◌, ◌/◌, ◌%◌, ◌^◌, nat_le, ℤ, pos, neg_ℤ, unsigned_abs, if◌then◌else◌}
use Rattle.std.specs.Int.{int_rem_euclid}

-- 180 degrees; own
abbrev pub half_turn : ℕ
half_turn = 11796480

-- the sine of d, from 0 to 180 degrees: 4 d (180 - d) / (40500 - d (180 - d)), rounded down; own
unfoldable pub half_sine : ℕ → ℕ
half_sine d = (65536 * (4 * (d * (half_turn - d)))) / (40500 * 2 ^ 32 - d * (half_turn - d))

-- the sine of d, from 0 to 360 degrees: past 180 degrees it is that of 180 degrees less, below zero; own
unfoldable pub sine : ℕ → ℤ
sine d = if nat_le d half_turn then pos (half_sine d) else neg_ℤ (pos (half_sine (d - half_turn)))

-- the sine of the angle that is 90 degrees greater; own
unfoldable pub cosine : ℕ → ℤ
cosine d = sine ((d + 5898240) % (2 * half_turn))

-- an angle modulo 360 degrees; own
abbrev pub angle_of : ℤ → ℕ
angle_of angle = unsigned_abs (int_rem_euclid angle (pos (2 * half_turn)))
