-- How words spell bytes; own.
use Rattle.std.specs.Prelude.{ℕ, ◌+◌, ◌*◌, ◌%◌, Bool, List, [], ◌∷◌, Option, Some, None, length, nat_lt, ◌==◌, ◌&&◌, if◌then◌else◌}
use Rattle.std.specs.List.{list_all}
use Rattle.std.specs.Char.{is_ascii_hexdigit}
use Rattle.gl_memory.specs.Room.{RoomView}
use Rattle.script_reader.specs.Number.{hex_digit}

-- one or more pairs of hexadecimal digits of either case
abbrev pub are_pairs : List ℕ → Bool
are_pairs word = nat_lt 0 (length word) && length word % 2 == 0 && list_all is_ascii_hexdigit word

-- a byte a pair, of which the first digit counts sixteen times
abbrev pub paired : List ℕ → List ℕ
paired [] = []
paired (high ∷ []) = []
paired (high ∷ low ∷ digits) = (16 * hex_digit high + hex_digit low) ∷ paired digits

-- the bytes that a word spells, if it spells some
unfoldable pub bytes_of : List ℕ → Option (List ℕ)
bytes_of word = if are_pairs word then Some (paired word) else None

-- bytes in a room for just so many
abbrev pub in_their_room : List ℕ → RoomView ℕ
in_their_room bytes = record { items = bytes; room = length bytes }
