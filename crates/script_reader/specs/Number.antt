-- How words spell numbers; own.
use Rattle.std.specs.Prelude.{ℕ, ◌+◌, ◌-◌, ◌*◌, ℤ, pos, neg_ℤ, int_le, Bool, List, [], ◌∷◌, Option, Some, None, length, nat_lt, nat_le, ◌==◌, ◌&&◌, if◌then◌else◌, fold}
use Rattle.std.specs.List.{list_all}
use Rattle.std.specs.Option.{option_map}
use Rattle.std.specs.Char.{is_ascii_digit, is_ascii_hexdigit}
use Rattle.std.specs.Int.{is_in_range}
use Rattle.gl_words.specs.Names.{number_named}

-- an integer lies between two numbers, or is one of them
abbrev pub is_within : ℕ → ℕ → ℤ → Bool
is_within low high number = int_le (pos low) number && int_le number (pos high)

-- the number that decimal digits spell: ten times the one before the last digit, and that digit
abbrev pub decimal_value : List ℕ → ℕ
decimal_value digits = fold (λ number digit. 10 * number + (digit - 48)) 0 digits

-- 1 to 10 decimal digits
unfoldable pub decimal_of : List ℕ → Option ℕ
decimal_of word = if nat_lt 0 (length word) && nat_le (length word) 10 && list_all is_ascii_digit word then Some (decimal_value word) else None

-- what a hexadecimal digit of either case stands for
abbrev pub hex_digit : ℕ → ℕ
hex_digit digit = if is_in_range 48 57 digit then digit - 48 else (if is_in_range 97 102 digit then digit - 87 else digit - 55)

-- the number that hexadecimal digits spell
abbrev pub hexadecimal_value : List ℕ → ℕ
hexadecimal_value digits = fold (λ number digit. 16 * number + hex_digit digit) 0 digits

-- 1 to 8 hexadecimal digits of either case
unfoldable pub hexadecimal_of : List ℕ → Option ℕ
hexadecimal_of word = if nat_lt 0 (length word) && nat_le (length word) 8 && list_all is_ascii_hexdigit word then Some (hexadecimal_value word) else None

-- decimal digits, or `0x` and hexadecimal ones
abbrev pub unsigned_number : ℕ → List ℕ → Option ℤ
unsigned_number first [] = option_map pos (decimal_of (first ∷ []))
unsigned_number first (second ∷ rest) = if first == 48 && second == 120 then option_map pos (hexadecimal_of rest) else option_map pos (decimal_of (first ∷ second ∷ rest))

-- the same, or a minus and decimal digits
unfoldable pub number_of : List ℕ → Option ℤ
number_of [] = None
number_of (first ∷ rest) = if first == 45 then option_map (λ number. neg_ℤ (pos number)) (decimal_of rest) else unsigned_number first rest

-- the first of the two that is there; a name spells no number, since it begins with a letter
abbrev pub number_or : Option ℤ → Option ℕ → Option ℤ
number_or (Some number) named = Some number
number_or None named = option_map pos named

-- an argument of a call: a number, or a name
unfoldable pub argument_of : List ℕ → Option ℤ
argument_of word = number_or (number_of word) (number_named word)
