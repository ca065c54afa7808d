-- Counts of faults: a number that never falls and stands still at the end of 64 bits.
-- What a fault is stands nowhere here: each object of the outside knows its own.
use Rattle.std.specs.Prelude.{ℕ, ◌+◌, ◌-◌, ◌^◌, ◌<◌, ◌≤◌, ◌⊎◌, min}

-- a count of faults rose: it is greater after than before, or stands at its end after; own
abbrev pub Rose : ℕ → ℕ → Type 0
Rose before after = (before < after) ⊎ (2 ^ 64 - 1 ≤ after)

-- one more, and at the end of 64 bits the same; own
abbrev pub one_more : ℕ → ℕ
one_more count = min (count + 1) (2 ^ 64 - 1)
