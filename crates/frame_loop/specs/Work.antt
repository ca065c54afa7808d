-- The program's own work; own.
use Rattle.std.specs.Prelude.{ℕ, zero, suc, ◌+◌, ◌*◌, ◌%◌, ◌^◌}

-- the number behind another one, in the order of MMIX's generator; own
unfoldable pub number_after : ℕ → ℕ
number_after number = (number * 6364136223846793005 % 2 ^ 64 + 1442695040888963407) % 2 ^ 64

-- the number so many steps behind another one; own
abbrev pub worked : ℕ → ℕ → ℕ
worked number zero = number
worked number (suc steps) = number_after (worked number steps)

-- what the work before so many frames comes to, which begins at 0; own
abbrev pub sum_of : ℕ → ℕ → ℕ
sum_of work zero = 0
sum_of work (suc frames) = worked (sum_of work frames) work
