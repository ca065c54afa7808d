-- What a function gives for the elements of a list, one after another.
use Rattle.std.proofs.Common.{◌≡◌, ℕ, ◌+◌, ◌<◌, List, [], ◌∷◌, ◌++◌, length, get_or, take, ap, sym, ◌∙◌, append_assoc}
use Rattle.std.specs.List.{flat_map}
use Rattle.std.proofs.lemmas.List.{append-nil, take_more}
use Rattle.std.proofs.lemmas.List.Concat.{flat_map-append}

-- of one more element
pub flat_map-take_more : {A B : Type 0} (f : A → List B) (xs : List A) (i : ℕ) (x : A) → i < length xs → x ≡ get_or xs i x → flat_map f (take (i + 1) xs) ≡ flat_map f (take i xs) ++ f x
flat_map-take_more {A} {B} f xs i x inside is =
    let one : List A → List B = λ l. flat_map f l in
    ap one (take_more xs i x inside ∙ ap (λ (y : A). take i xs ++ y ∷ []) (sym is))
    ∙ flat_map-append f (take i xs) (x ∷ [])
    ∙ ap (λ (l : List B). flat_map f (take i xs) ++ l) (append-nil (f x))

-- what was added for the elements so far, and for one more
pub added_more : {A B : Type 0} (f : A → List B) (xs : List A) (i : ℕ) (x : A) (start so_far now : List B) → i < length xs → x ≡ get_or xs i x → so_far ≡ start ++ flat_map f (take i xs) → now ≡ so_far ++ f x → now ≡ start ++ flat_map f (take (i + 1) xs)
added_more {A} {B} f xs i x start so_far now inside is before added =
    added
    ∙ ap (λ (l : List B). l ++ f x) before
    ∙ append_assoc start (flat_map f (take i xs)) (f x)
    ∙ ap (λ (l : List B). start ++ l) (sym (flat_map-take_more f xs i x inside is))

-- the parts of a report, one behind the other
pub parts_of_report : (head answers counts images end : List ℕ) → ((head ++ answers) ++ counts) ++ (images ++ end) ≡ head ++ (answers ++ (counts ++ (images ++ end)))
parts_of_report head answers counts images end = append_assoc (head ++ answers) counts (images ++ end) ∙ append_assoc head answers (counts ++ (images ++ end))

pub parts_of_direct_report : (head answers images end : List ℕ) → (head ++ answers) ++ (images ++ end) ≡ head ++ (answers ++ (images ++ end))
parts_of_direct_report head answers images end = append_assoc head answers (images ++ end)
