-- The bytes that pairs of digits spell, one pair after another.
use Rattle.std.proofs.Common.{◌≡◌, ℕ, suc, ◌+◌, ◌-◌, ◌*◌, ◌/◌, ◌%◌, ◌<◌, ◌≤◌, true, ◌&&◌, List, [], ◌∷◌, ◌++◌, length, get_or, take, drop, append_assoc, refl, sym, ap, ◌∙◌, arith, IsTrue}
use Rattle.std.specs.List.{All, list_all}
use Rattle.std.specs.Char.{is_ascii_hexdigit}
use Rattle.std.proofs.lemmas.Bool.{and_parts}
use Rattle.std.proofs.lemmas.Bool.Decides.{nat_tests}
use Rattle.std.proofs.lemmas.List.Elements.{All-nil, All-cons}
use Rattle.std.proofs.Math.Seq.{take-length}
use Rattle.gl_memory.specs.Room.{RoomView}
use Rattle.std.specs.Prelude.{nat_lt, ◌==◌}
use Rattle.script_reader.specs.Hex.{are_pairs, paired}
use Rattle.script_reader.specs.Number.{hex_digit}

pub length-paired : (digits : List ℕ) → length (paired digits) ≡ length digits / 2
length-paired [] = refl
length-paired (high ∷ []) = refl
length-paired (high ∷ low ∷ digits) = omega (arith, length-paired digits)

-- digits in pairs are digits
pub are_pairs-digits : (word : List ℕ) → IsTrue (are_pairs word) → list_all is_ascii_hexdigit word ≡ true
are_pairs-digits word pairs = (and_parts (nat_lt 0 (length word) && length word % 2 == 0) (list_all is_ascii_hexdigit word) pairs).1

take_all_but_two : (digits : List ℕ) → take (suc (suc (length digits)) - 2) digits ≡ digits
take_all_but_two digits = let same : suc (suc (length digits)) - 2 ≡ length digits = omega arith in ap (λ (n : ℕ). take n digits) same ∙ take-length digits

-- a pair spells its byte before those of the others
paired-more : (rest : List ℕ) → 2 ≤ length rest → paired rest ≡ (16 * hex_digit (get_or rest 0 0) + hex_digit (get_or rest 1 0)) ∷ paired (take (length rest - 2) (drop 2 rest))
paired-more [] some = absurd (omega arith)
paired-more (high ∷ []) some = absurd (omega arith)
paired-more (high ∷ low ∷ digits) some = ap (λ (ds : List ℕ). (16 * hex_digit high + hex_digit low) ∷ paired ds) (sym (take_all_but_two digits))

pub paired-push : (old new : RoomView ℕ) (rest all : List ℕ) (high low : ℕ) → 2 ≤ length rest → high ≡ hex_digit (get_or rest 0 0) → low ≡ hex_digit (get_or rest 1 0) → new ≡ record { items = old.items ++ (16 * high + low) ∷ []; room = old.room } → old.items ++ paired rest ≡ all → new.items ++ paired (take (length rest - 2) (drop 2 rest)) ≡ all
paired-push old new rest all high low some first second pushed whole =
    let left = paired (take (length rest - 2) (drop 2 rest)) in
    ap (λ (o : RoomView ℕ). o.items ++ left) pushed
    ∙ append_assoc old.items ((16 * high + low) ∷ []) left
    ∙ ap (λ (h : ℕ). old.items ++ (16 * h + low) ∷ left) first
    ∙ ap (λ (l : ℕ). old.items ++ (16 * hex_digit (get_or rest 0 0) + l) ∷ left) second
    ∙ ap (λ (bytes : List ℕ). old.items ++ bytes) (sym (paired-more rest some))
    ∙ whole

pub digits_left : (rest : List ℕ) → 2 ≤ length rest → list_all is_ascii_hexdigit rest ≡ true → list_all is_ascii_hexdigit (take (length rest - 2) (drop 2 rest)) ≡ true
digits_left [] some digits = absurd (omega arith)
digits_left (high ∷ []) some digits = absurd (omega arith)
digits_left (high ∷ low ∷ rest) some digits =
    let behind_one = (and_parts (is_ascii_hexdigit high) (list_all is_ascii_hexdigit (low ∷ rest)) digits).1 in
    let behind_two = (and_parts (is_ascii_hexdigit low) (list_all is_ascii_hexdigit rest) behind_one).1 in
    ap (λ (ds : List ℕ). list_all is_ascii_hexdigit ds) (take_all_but_two rest) ∙ behind_two

hex_digit-small : (digit : ℕ) → is_ascii_hexdigit digit ≡ true → hex_digit digit < 16
hex_digit-small digit h = grind (arith, nat_tests)

-- a pair spells a byte
pub paired-are_bytes : (digits : List ℕ) → list_all is_ascii_hexdigit digits ≡ true → All (λ byte. byte < 256) (paired digits)
paired-are_bytes [] h = All-nil (λ byte. byte < 256)
paired-are_bytes (high ∷ []) h = All-nil (λ byte. byte < 256)
paired-are_bytes (high ∷ low ∷ digits) h =
    let first = and_parts (is_ascii_hexdigit high) (list_all is_ascii_hexdigit (low ∷ digits)) h in
    let second = and_parts (is_ascii_hexdigit low) (list_all is_ascii_hexdigit digits) (first.1) in
    let small_high : hex_digit high < 16 = hex_digit-small high (first.0) in
    let small_low : hex_digit low < 16 = hex_digit-small low (second.0) in
    All-cons (λ byte. byte < 256) (16 * hex_digit high + hex_digit low) (paired digits) (omega arith) (paired-are_bytes digits (second.1))
