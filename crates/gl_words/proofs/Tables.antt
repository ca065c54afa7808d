-- What a search in a table of names finds.
use Rattle.std.proofs.Common.{◌≡◌, ℕ, ◌+◌, true, add-one, List, [], ◌∷◌, refl, sym, ap, ◌∙◌, arith, subst, Some, None, Option, IfSome, Bor, length, zero, suc, get_or, ◌<◌, ◌≤◌}
use Rattle.std.specs.List.{Contains, list_all}
use Rattle.std.specs.Str.{bytes_eq}
use Rattle.std.proofs.lemmas.List.Sums.{AllPass-from_list_all}
use Rattle.std.proofs.lemmas.Slice.Eq.{bytes_eq-Decides}
use Rattle.std.proofs.lemmas.Bool.{eqb-true}
use Rattle.gl_words.proofs.Places.{by_both}
use Rattle.gl_words.proofs.Rows.{by_test}
use Rattle.gl_words.specs.Names.{names, finds, AreGroups}
use Rattle.gl_words.specs.Lookup.{seen_names, found_in, of_length}
use Rattle.gl_words.specs.declared.names.Name.{Name}

-- a row that is found is a row of the table
pub found_is_in : {X : Type 0} → (rows : List (List ℕ × X)) (name : List ℕ) (x : X) → found_in rows name ≡ Some x → Contains rows (name, x)
found_is_in [] name x h = absurd (cc)
found_is_in {X} (row ∷ rows) name x h =
    by_test (bytes_eq row.0 name) _ _ x h
    (λ same is. (0, omega arith, ap (λ (n : List ℕ). (n, row.1)) ((bytes_eq-Decides row.0 name).0 same) ∙ ap (λ (v : X). (name, v)) (cc)))
    (λ later. let w = found_is_in rows name x later in (w.0 + 1, omega (arith, w.1), rw add-one (w.2)))

finds-is : (o : Option ℕ) (n : ℕ) → finds o n ≡ true → o ≡ Some n
finds-is None n h = absurd (cc)
finds-is (Some m) n h = ap Some (eqb-true m n h)

-- a search for each name of the table finds its number, so no name stands there twice
each_name_is_found : list_all (λ row. finds (found_in names row.0) row.1) names ≡ true
unfolding names
each_name_is_found = refl

pub found_is_in_names : (name : List ℕ) (o : Option ℕ) → o ≡ found_in names name → IfSome o (λ n. Contains names (name, n))
found_is_in_names name None h = tt
found_is_in_names name (Some n) h = found_is_in names name n (sym h)

pub in_names_is_found : (name : List ℕ) (n : ℕ) → Contains names (name, n) → found_in names name ≡ Some n
in_names_is_found name n h =
    let here = AllPass-from_list_all _ names each_name_is_found (h.0) (name, n) (h.1) in
    finds-is (found_in names name) n (subst (λ (row : List ℕ × ℕ). finds (found_in names row.0) row.1 ≡ true) (h.2) here)

-- ---- the names by their lengths

in_group_is_found : (groups : List (Bor (List Name))) → list_all (λ group. list_all (λ row. finds (found_in names row.0) row.1) (seen_names group.now)) groups ≡ true
    → (len : ℕ) → list_all (λ row. finds (found_in names row.0) row.1) (seen_names (of_length groups len)) ≡ true
in_group_is_found [] h len = refl
in_group_is_found (group ∷ groups) h zero = by_both _ _ h (λ first others. first)
in_group_is_found (group ∷ groups) h (suc len) = by_both _ _ h (λ first others. in_group_is_found groups others len)

finds_at : (rows : List (List ℕ × ℕ)) (p : List ℕ → Option ℕ) → list_all (λ row. finds (p row.0) row.1) rows ≡ true → (name : List ℕ) (n : ℕ) → Contains rows (name, n) → p name ≡ Some n
finds_at rows p all name n h =
    let here = AllPass-from_list_all _ rows all (h.0) (name, n) (h.1) in
    finds-is (p name) n (subst (λ (row : List ℕ × ℕ). finds (p row.0) row.1 ≡ true) (h.2) here)

both_ways : (a b : Option ℕ) → ((n : ℕ) → a ≡ Some n → b ≡ Some n) → ((n : ℕ) → b ≡ Some n → a ≡ Some n) → a ≡ b
both_ways None None there back = refl
both_ways None (Some n) there back = back n refl
both_ways (Some n) b there back = sym (there n refl)

-- what is found among the names of its length is what is found among all
pub found_by_length : (groups : List (Bor (List Name))) → AreGroups groups → (name : List ℕ) → found_in (seen_names (of_length groups (length name))) name ≡ found_in names name
found_by_length groups h name =
    let group = seen_names (of_length groups (length name)) in
    both_ways (found_in group name) (found_in names name)
    (λ n found. finds_at group (found_in names) (in_group_is_found groups h.only (length name)) name n (found_is_in group name n found))
    (λ n found. finds_at names (λ (word : List ℕ). found_in (seen_names (of_length groups (length word))) word) h.each name n (found_is_in names name n found))

-- ---- what stands at a place of groups

pub of_length-at : {X : Type 0} → (groups : List (Bor (List X))) (len : ℕ) (group : Bor (List X)) → len < length groups → of_length groups len ≡ (get_or groups len group).now
of_length-at [] len group h = absurd (omega arith)
of_length-at (one ∷ groups) zero group h = refl
of_length-at (one ∷ groups) (suc len) group h = of_length-at groups len group (omega arith)

pub of_length-past : {X : Type 0} → (groups : List (Bor (List X))) (len : ℕ) → length groups ≤ len → of_length groups len ≡ []
of_length-past [] len h = refl
of_length-past (one ∷ groups) zero h = absurd (omega arith)
of_length-past (one ∷ groups) (suc len) h = of_length-past groups len (omega arith)
