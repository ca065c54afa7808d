-- The names of images are text.
use Rattle.std.proofs.Common.{◌≡◌, ℕ, zero, suc, ◌<◌, Bool, true, false, ◌&&◌, List, [], ◌∷◌, refl, length, nat_le, arith}
use Rattle.std.specs.List.{list_all}
use Rattle.std.specs.Str.{IsAscii, IsUtf8}
use Rattle.std.proofs.lemmas.Bool.Decides.{nat_tests}
use Rattle.std.proofs.lemmas.Str.{IsUtf8-from_ascii}
use Rattle.script_reader.specs.Name.{is_name, is_name_byte}

both_true : (a b : Bool) → (a && b) ≡ true → (a ≡ true) × (b ≡ true)
both_true true b h = (refl, h)
both_true false b h = absurd (cc)

-- a byte of a name is below 128
name_byte_is_low : (byte : ℕ) → is_name_byte byte ≡ true → byte < 128
name_byte_is_low byte h = grind (arith, nat_tests)

name_bytes_are_ascii : (bytes : List ℕ) → list_all is_name_byte bytes ≡ true → IsAscii bytes
name_bytes_are_ascii [] h i = omega arith
name_bytes_are_ascii (byte ∷ bytes) h zero = name_byte_is_low byte (both_true (is_name_byte byte) (list_all is_name_byte bytes) h).0
name_bytes_are_ascii (byte ∷ bytes) h (suc i) = name_bytes_are_ascii bytes ((both_true (is_name_byte byte) (list_all is_name_byte bytes) h).1) i

-- a name is text
pub names_are_text : (word : List ℕ) → is_name word ≡ true → IsUtf8 word
names_are_text word h =
    IsUtf8-from_ascii word (name_bytes_are_ascii word ((both_true (nat_le 1 (length word) && nat_le (length word) 32) (list_all is_name_byte word) h).1))
