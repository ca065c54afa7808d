-- Where a coordinate comes to along a side of a texture: which texels, and how much each weighs. No texel is read here.
use Rattle.std.specs.Prelude.{ℕ, ◌-◌, ◌/◌, ◌^◌, min, ℤ, pos, negsuc, ◌+ℤ◌, ◌-ℤ◌, ◌*ℤ◌, int_lt, unsigned_abs, Bool, if◌then◌else◌}
use Rattle.std.specs.Int.{int_div_euclid, int_rem_euclid}

-- the number from -2^31 to 2^31 - 1 that is nearest to z; own
abbrev pub clamp_i32 : ℤ → ℤ
clamp_i32 (pos n) = pos (min n (2 ^ 31 - 1))
clamp_i32 (negsuc n) = negsuc (min n (2 ^ 31 - 1))

-- s over q, or t over q, at which a texture is read: 16.16 fixed, rounded down and clamped to 32 bits, and 0 where q isn't above 0; section 3.5.1, the rounding and the 0 own
unfoldable pub coordinate_of : ℤ → ℤ → ℤ
coordinate_of s q = if int_lt (pos 0) q then clamp_i32 (int_div_euclid (s *ℤ pos 65536) q) else pos 0

-- how far a coordinate comes along a side, in 65,536ths of a texel; section 3.7.7
abbrev pub along : ℤ → ℕ → ℤ
along coordinate side = coordinate *ℤ pos side

-- the texel, counted from 0 and past the ends, in which a number of 65,536ths of a texel lies; section 3.7.7
abbrev pub texel_of : ℤ → ℤ
texel_of far = int_div_euclid far (pos 65536)

-- the place on a side of a texel that is counted past the ends, by REPEAT: the side's texels come again and again; section 3.7.6
unfoldable pub repeated : ℕ → ℤ → ℕ
repeated side texel = unsigned_abs (int_rem_euclid texel (pos side))

-- the place on a side of a texel that is counted past the ends, by CLAMP_TO_EDGE: the nearest one on the side; section 3.7.6
abbrev pub clamped_to_edge : ℕ → ℤ → ℕ
clamped_to_edge side (pos n) = min n (side - 1)
clamped_to_edge side (negsuc n) = 0

-- the place on a side of a texel that is counted past the ends, by CLAMP_TO_EDGE or else by REPEAT; section 3.7.6
unfoldable pub place_of : Bool → ℕ → ℤ → ℕ
place_of clamp side texel = if clamp then clamped_to_edge side texel else repeated side texel

-- NEAREST: the place on a side of the texel in which a coordinate lies; sections 3.7.7 and 3.7.8
abbrev pub nearest_of : Bool → ℕ → ℤ → ℕ
nearest_of clamp side coordinate = place_of clamp side (texel_of (along coordinate side))

-- how far a coordinate comes past the centre of the first texel, in 65,536ths of a texel; section 3.7.7
abbrev pub past_centre : ℤ → ℕ → ℤ
past_centre coordinate side = along coordinate side -ℤ pos 32768

-- LINEAR: the place on a side of the last texel whose centre a coordinate comes to; section 3.7.7
unfoldable pub first_of : Bool → ℕ → ℤ → ℕ
first_of clamp side coordinate = place_of clamp side (texel_of (past_centre coordinate side))

-- LINEAR: the place on a side of the texel after that; section 3.7.7
unfoldable pub second_of : Bool → ℕ → ℤ → ℕ
second_of clamp side coordinate = place_of clamp side (texel_of (past_centre coordinate side) +ℤ pos 1)

-- LINEAR: how far a coordinate lies between the two centres, in 256ths, rounded down; section 3.7.7, the rounding own
unfoldable pub share_of : ℕ → ℤ → ℕ
share_of side coordinate = unsigned_abs (int_rem_euclid (past_centre coordinate side) (pos 65536)) / 256
