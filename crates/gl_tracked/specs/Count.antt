-- How many of something a call names by a signed number; own. Which numbers are errors stands in Fault.antt.
use Rattle.std.specs.Prelude.{ℕ, nat_le, ℤ, pos, negsuc, if◌then◌else◌}

-- a number that isn't below zero, and 0 for all others; own
abbrev pub count_of : ℤ → ℕ
count_of (pos count) = count
count_of (negsuc below) = 0

-- how many elements a draw of so many draws: none where that is an error, which it is below zero and above 65536; section 2.8, the most own
unfoldable pub count_drawn : ℤ → ℕ
count_drawn count = if nat_le (count_of count) 65536 then count_of count else 0
