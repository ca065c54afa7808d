-- The names of the tables are ASCII, so what isn't text is no name.
use Rattle.std.proofs.Common.{◌≡◌, ℕ, zero, suc, Bool, true, false, ◌&&◌, List, [], ◌∷◌, refl, subst, arith, Some, None, Option}
use Rattle.std.specs.List.{list_all}
use Rattle.std.specs.Char.{is_ascii}
use Rattle.std.specs.Str.{bytes_eq, IsAscii, IsUtf8}
use Rattle.std.proofs.lemmas.Bool.Decides.{nat_tests}
use Rattle.std.proofs.lemmas.Slice.Eq.{bytes_eq-Decides}
use Rattle.std.proofs.lemmas.Str.{IsUtf8-from_ascii}
use Rattle.gl_words.proofs.Rows.{by_test}
use Rattle.gl_words.specs.Call.{name_of}
use Rattle.gl_words.specs.Lookup.{found_in}
use Rattle.gl_words.specs.Names.{names, number_named}
use Rattle.gl_words.specs.Shape.{shapes, shape_named}

both_true : (a b : Bool) → (a && b) ≡ true → (a ≡ true) × (b ≡ true)
both_true true b h = (refl, h)
both_true false b h = absurd (cc)

IsAscii-from_list_all : (bytes : List ℕ) → list_all is_ascii bytes ≡ true → IsAscii bytes
IsAscii-from_list_all [] h i = omega arith
IsAscii-from_list_all (byte ∷ bytes) h zero = let low = (both_true (is_ascii byte) (list_all is_ascii bytes) h).0 in grind (arith, nat_tests)
IsAscii-from_list_all (byte ∷ bytes) h (suc i) = IsAscii-from_list_all bytes ((both_true (is_ascii byte) (list_all is_ascii bytes) h).1) i

found_is_ascii : {X : Type 0} → (rows : List (List ℕ × X)) (name : List ℕ) (x : X) → list_all (λ row. list_all is_ascii row.0) rows ≡ true → found_in rows name ≡ Some x → IsAscii name
found_is_ascii [] name x ascii h = absurd (cc)
found_is_ascii {X} (row ∷ rows) name x ascii h =
    let each = both_true (list_all is_ascii row.0) (list_all (λ (r : List ℕ × X). list_all is_ascii r.0) rows) ascii in
    by_test (bytes_eq row.0 name) _ _ x h
    (λ same is. subst IsAscii ((bytes_eq-Decides row.0 name).0 same) (IsAscii-from_list_all row.0 (each.0)))
    (λ later. found_is_ascii rows name x (each.1) later)

ascii_names : list_all (λ row. list_all is_ascii row.0) names ≡ true
unfolding names
ascii_names = refl

ascii_shapes : list_all (λ row. list_all is_ascii row.0) shapes ≡ true
unfolding shapes name_of
ascii_shapes = refl

none_unless : {X : Type 0} (o : Option X) → ((x : X) → o ≡ Some x → ⊥) → None ≡ o
none_unless None h = refl
none_unless (Some x) h = absurd (h x refl)

pub no_name_unless_text : (word : List ℕ) → (IsUtf8 word → ⊥) → None ≡ number_named word
no_name_unless_text word h = none_unless (number_named word) (λ n found. h (IsUtf8-from_ascii word (found_is_ascii names word n ascii_names found)))

pub no_shape_unless_text : (word : List ℕ) → (IsUtf8 word → ⊥) → None ≡ shape_named word
no_shape_unless_text word h = none_unless (shape_named word) (λ shape found. h (IsUtf8-from_ascii word (found_is_ascii shapes word shape ascii_shapes found)))
