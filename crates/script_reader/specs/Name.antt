-- The words that name an image; own.
use Rattle.std.specs.Prelude.{ℕ, Bool, List, Option, Some, None, length, nat_le, ◌==◌, ◌&&◌, ◌||◌, if◌then◌else◌}
use Rattle.std.specs.List.{list_all}

-- a letter, a digit, `-` or `_`
abbrev pub is_name_byte : ℕ → Bool
is_name_byte byte =
    (nat_le 65 byte && nat_le byte 90) || (nat_le 97 byte && nat_le byte 122)
    || (nat_le 48 byte && nat_le byte 57) || byte == 45 || byte == 95

-- 1 to 32 of them
abbrev pub is_name : List ℕ → Bool
is_name word = nat_le 1 (length word) && nat_le (length word) 32 && list_all is_name_byte word

-- the name that a word spells
abbrev pub name_of : List ℕ → Option (List ℕ)
name_of word = if is_name word then Some word else None
