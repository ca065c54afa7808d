-- Words two by two, from their first two on.
use Rattle.std.proofs.Common.{◌≡◌, ℕ, ◌≤◌, ◌<◌, ◌-◌, ◌==◌, ◌&&◌, Bool, true, false, List, [], ◌∷◌, Option, Some, None, Bor, is_some, is_none, length, get_or, map, take, drop, String, refl, sym, ap, ◌∙◌, arith}
use Rattle.std.proofs.lemmas.Grind.{common_steps}
use Rattle.std.specs.List.{list_all}
use Rattle.std.specs.Option.{option_copied}
use Rattle.replay_text.specs.Words.{are_options, come_in_pairs, is_option, pairs_of, stand_once, texts_of, value_given}

-- a list of at least two elements, mapped
pub map_two : {X Y : Type 0} (f : X → Y) (xs : List X) (a b : X) → 2 ≤ length xs → a ≡ get_or xs 0 a → b ≡ get_or xs 1 b → map f xs ≡ f a ∷ f b ∷ map f (take (length xs - 2) (drop 2 xs))
map_two f [] a b low first second = absurd (omega arith)
map_two f (x ∷ []) a b low first second = absurd (omega arith)
map_two f (x ∷ y ∷ xs) a b low first second = grind (arith, common_steps)

-- fewer than two words give no value
pub no_pair_left : {Z : Type 0} (name : List ℕ) (words : List (String Z)) → length words < 2 → None ≡ value_given name (pairs_of (texts_of words))
no_pair_left name [] few = refl
no_pair_left name (word ∷ []) few = refl
no_pair_left name (word ∷ other ∷ words) few = absurd (omega arith)

-- of fewer than two words none alone are options
pub no_option_left : {Z : Type 0} (words : List (String Z)) → length words < 2 → (length words == 0) ≡ are_options (texts_of words)
no_option_left [] few = refl
no_option_left (word ∷ []) few = refl
no_option_left (word ∷ other ∷ words) few = absurd (omega arith)

-- a conjunction with a false part
one_false : (p l q s c : Bool) → q ≡ false → false ≡ ((p && l) && ((q && s) && c))
one_false p l true s c lost = absurd (cc)
one_false true true false s c lost = refl
one_false true false false s c lost = refl
one_false false l false s c lost = refl

-- a value that is there
some_is_not_none : (o : Option (Bor (List ℕ))) → is_some o ≡ true → is_none (option_copied o) ≡ false
some_is_not_none (Some value) there = refl
some_is_not_none None there = absurd (cc)

-- words that name an option again are no options
pub named_again : (words rest : List (List ℕ)) (name value first : List ℕ) (found : Option (Bor (List ℕ))) → words ≡ name ∷ value ∷ rest → first ≡ name → option_copied found ≡ value_given first (pairs_of rest) → is_some found ≡ true → false ≡ are_options words
named_again words rest name value first found two same_name given there =
    let again : is_none (value_given name (pairs_of rest)) ≡ false =
    ap (λ (n : List ℕ). is_none (value_given n (pairs_of rest))) (sym same_name) ∙ ap (λ (o : Option (List ℕ)). is_none o) (sym given) ∙ some_is_not_none found there in
    one_false (is_option (name, value)) (list_all is_option (pairs_of rest)) (is_none (value_given name (pairs_of rest))) (stand_once (pairs_of rest)) (come_in_pairs rest) again ∙ ap are_options (sym two)
