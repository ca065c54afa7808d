-- How comparisons come out; sections 4.1.4 and 4.1.6.
use Rattle.std.specs.Prelude.{ℕ, ◌==◌, nat_lt, nat_le, Bool, true, false, not, if◌then◌else◌}

-- whether a comparison holds of two numbers: NEVER, LESS, EQUAL, LEQUAL, GREATER, NOTEQUAL, GEQUAL, and else ALWAYS; sections 4.1.4 and 4.1.6
unfoldable pub compares : ℕ → ℕ → ℕ → Bool
compares comparison left right =
    if comparison == 0x200 then false else (
    if comparison == 0x201 then nat_lt left right else (
    if comparison == 0x202 then left == right else (
    if comparison == 0x203 then nat_le left right else (
    if comparison == 0x204 then nat_lt right left else (
    if comparison == 0x205 then not (left == right) else (
    if comparison == 0x206 then nat_le right left else true))))))
