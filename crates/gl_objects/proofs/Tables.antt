-- Tables after a name was put, given or forgotten.
use Rattle.std.proofs.Common.{◌≡◌, ℕ, zero, suc, ◌+◌, ◌≤◌, Bool, true, false, cond, not, ◌&&◌, ◌||◌, List, [], ◌∷◌, ◌++◌, take, is_some, refl, sym, ap, ◌∙◌, arith, true≢false, nat_cmp, is_eq, Ordering, Less, Equal, Greater}
use Rattle.std.specs.Prelude.{Option, Some, None}
use Rattle.std.specs.Cmp.{nat_cmp_total, tied_itself, eq_by_cmp_equiv}
use Rattle.std.specs.FinMap.{nat_cmp-IsAntisymmetric}
use Rattle.std.specs.Ordering.{eq_by_cmp, match_ordering}
use Rattle.std.specs.List.{filter, list_any, IsDistinct}
use Rattle.std.specs.List.Sorted.{IsStrictlySortedBy}
use Rattle.std.specs.Map.{lookup, remove_entry, set_value, keys_of}
use Rattle.std.specs.BTreeMap.{is_at}
use Rattle.std.proofs.lemmas.Bool.{or_right}
use Rattle.std.proofs.lemmas.Map.{NonePasses, lookup-none}
use Rattle.std.proofs.lemmas.Map.Keys.{IsDistinct-from_sorted, IsDistinct-tail, sorted_tail}
use Rattle.std.proofs.lemmas.Map.Entries.{none_past_head, none_below_head, sum_by-insert_entry, sum_by-remove_entry, sum_by-set_value}
use Rattle.gl_objects.specs.declared.named.Named.{Named}
use Rattle.gl_objects.specs.declared.named.Named.TheVariants.{Generated}
use Rattle.gl_objects.specs.Table.{is_among, object_of, named, put, given, without, size_in, size_at, total}

equal_of : (r : Ordering) → is_eq r ≡ true → r ≡ Equal
equal_of Less h = absurd (true≢false (sym h))
equal_of Equal h = refl
equal_of Greater h = absurd (true≢false (sym h))

-- the name that a look-up finds is the one that was asked for
pub hit_is : (name other : ℕ) → is_at (nat_cmp name) other ≡ true → name ≡ other
hit_is name other h = nat_cmp-IsAntisymmetric name other (equal_of (nat_cmp name other) h)

pub hits_itself : (name : ℕ) → is_at (nat_cmp name) name ≡ true
hits_itself name = ap is_eq (tied_itself nat_cmp_total name)

apart : (other name key : ℕ) → nat_cmp name key ≡ Greater → is_at (nat_cmp other) key ≡ true → is_at (nat_cmp other) name ≡ true → ⊥
apart other name key is a b =
    let same : name ≡ key = sym (hit_is other name b) ∙ hit_is other key a in
    true≢false (sym (hits_itself name) ∙ ap (λ (k : ℕ). is_eq (nat_cmp name k)) same ∙ ap is_eq is)

-- ---- filters

two_filters : {X : Type 0} (p q r : X → Bool) → ((x : X) → r x ≡ (q x && p x)) → (xs : List X) → filter r xs ≡ filter p (filter q xs)
two_filters p q r is [] = refl
two_filters p q r is (x ∷ xs) =
    let rest = two_filters p q r is xs in
    ap (λ b. cond b (x ∷ filter r xs) (filter r xs)) (is x)
    ∙ elim (q x) as (λ b. cond (b && p x) (x ∷ filter r xs) (filter r xs) ≡ filter p (cond b (x ∷ filter q xs) (filter q xs))) [
      | true ↦ elim (p x) as (λ b. cond b (x ∷ filter r xs) (filter r xs) ≡ cond b (x ∷ filter p (filter q xs)) (filter p (filter q xs))) [
        | true ↦ ap (λ ys. x ∷ ys) rest
        | false ↦ rest
      ]
      | false ↦ rest
    ]

none_append : {X : Type 0} (t : X → Bool) (xs ys : List X) → not (list_any t (xs ++ ys)) ≡ (not (list_any t xs) && not (list_any t ys))
none_append t [] ys = refl
none_append t (x ∷ xs) ys =
    elim (t x) as (λ b. not (b || list_any t (xs ++ ys)) ≡ (not (b || list_any t xs) && not (list_any t ys))) [
      | true ↦ refl
      | false ↦ none_append t xs ys
    ]

-- each of the names is among these
abbrev AllAmong : List ℕ → List ℕ → Type 0
AllAmong names [] = Unit {0}
AllAmong names (n ∷ ns) = (is_among names n ≡ true) × AllAmong names ns

AllAmong-more : (name : ℕ) (names few : List ℕ) → AllAmong names few → AllAmong (name ∷ names) few
AllAmong-more name names [] h = tt
AllAmong-more name names (n ∷ ns) h = (or_right (is_at (nat_cmp name) n) (is_among names n) h.0, AllAmong-more name names ns h.1)

AllAmong-take : (i : ℕ) (names : List ℕ) → AllAmong names (take i names)
AllAmong-take zero names = tt
AllAmong-take (suc i) [] = tt
AllAmong-take (suc i) (n ∷ ns) = (ap (λ b. b || is_among ns n) (hits_itself n), AllAmong-more n ns (take i ns) (AllAmong-take i ns))

module _ {T : Type 0} where
  -- whether an entry is none of the names'
  abbrev others : List ℕ → ℕ × Named T → Bool
  others names e = not (is_among names e.0)

  -- ---- names forgotten

  pub without-none : (table : List (ℕ × Named T)) → without [] table ≡ table
  unfolding without
  without-none [] = refl
  without-none (e ∷ es) = ap (λ (rest : List (ℕ × Named T)). e ∷ rest) (without-none es)

  pub without-more : (names : List ℕ) (name : ℕ) (table : List (ℕ × Named T)) → without (names ++ name ∷ []) table ≡ without (name ∷ []) (without names table)
  unfolding without
  without-more names name table =
      two_filters (others (name ∷ [])) (others names) (others (names ++ name ∷ [])) (λ e. none_append (λ other. is_at (nat_cmp other) e.0) names (name ∷ [])) table

  all_stay : (name : ℕ) (es : List (ℕ × Named T)) → NonePasses (is_at (nat_cmp name)) es → filter (others (name ∷ [])) es ≡ es
  all_stay name [] h = refl
  all_stay name (e ∷ es) h =
      ap (λ b. cond (not (b || false)) (e ∷ filter (others (name ∷ [])) es) (filter (others (name ∷ [])) es)) h.0
      ∙ ap (λ (rest : List (ℕ × Named T)). e ∷ rest) (all_stay name es h.1)

  without-distinct : (name : ℕ) (es : List (ℕ × Named T)) → IsDistinct (eq_by_cmp nat_cmp) (keys_of es) → remove_entry (is_at (nat_cmp name)) es ≡ without (name ∷ []) es
  unfolding without
  without-distinct name [] distinct = refl
  without-distinct name (e ∷ es) distinct =
      elim (is_at (nat_cmp name) e.0) as (λ b. is_at (nat_cmp name) e.0 ≡ b → cond b es (e ∷ remove_entry (is_at (nat_cmp name)) es) ≡ cond (not (b || false)) (e ∷ filter (others (name ∷ [])) es) (filter (others (name ∷ [])) es)) [
        | true ↦ λ hit. sym (all_stay name es (none_past_head (eq_by_cmp_equiv nat_cmp_total) name e es distinct hit))
        | false ↦ λ _. ap (λ (rest : List (ℕ × Named T)). e ∷ rest) (without-distinct name es (IsDistinct-tail (eq_by_cmp nat_cmp) e.0 (keys_of es) distinct))
      ] refl

  -- an entry that is taken out of a table in order
  pub without-remove_entry : (name : ℕ) (table : List (ℕ × Named T)) → IsStrictlySortedBy nat_cmp (keys_of table) → remove_entry (is_at (nat_cmp name)) table ≡ without (name ∷ []) table
  without-remove_entry name table ordered = without-distinct name table (IsDistinct-from_sorted nat_cmp (keys_of table) ordered)

  -- ---- names put and forgotten

  without-put : (names : List ℕ) (name : ℕ) (what : Named T) (table : List (ℕ × Named T)) → is_among names name ≡ true → without names (put name what table) ≡ without names table
  unfolding without
  without-put names name what [] among = ap (λ b. cond (not b) ((name, what) ∷ []) []) among
  without-put names name what (e ∷ es) among =
      elim (nat_cmp name e.0) as (λ r. nat_cmp name e.0 ≡ r → filter (others names) (match_ordering r ((name, what) ∷ e ∷ es) ((e.0, what) ∷ es) (e ∷ put name what es)) ≡ filter (others names) (e ∷ es)) [
        | Less ↦ λ _. ap (λ b. cond (not b) ((name, what) ∷ filter (others names) (e ∷ es)) (filter (others names) (e ∷ es))) among
        | Equal ↦ λ is.
            let same : is_among names e.0 ≡ true = ap (is_among names) (sym (nat_cmp-IsAntisymmetric name e.0 is)) ∙ among in
            ap (λ b. cond (not b) ((e.0, what) ∷ filter (others names) es) (filter (others names) es)) same
            ∙ sym (ap (λ b. cond (not b) (e ∷ filter (others names) es) (filter (others names) es)) same)
        | Greater ↦ λ _. ap (λ (rest : List (ℕ × Named T)). cond (not (is_among names e.0)) (e ∷ rest) rest) (without-put names name what es among)
      ] refl

  without-given : (names few : List ℕ) (table : List (ℕ × Named T)) → AllAmong names few → without names (given few table) ≡ without names table
  unfolding given
  without-given names [] table h = refl
  without-given names (n ∷ ns) table h = without-given names ns (put n Generated table) h.1 ∙ without-put names n Generated table h.0

  -- names that were given and are forgotten
  pub without-given_first : (names : List ℕ) (i : ℕ) (table : List (ℕ × Named T)) → without names (given (take i names) table) ≡ without names table
  without-given_first names i table = without-given names (take i names) table (AllAmong-take i names)

  pub given-none : (table : List (ℕ × Named T)) → given [] table ≡ table
  unfolding given
  given-none table = refl

  pub given-more : (names : List ℕ) (name : ℕ) (table : List (ℕ × Named T)) → given (names ++ name ∷ []) table ≡ put name Generated (given names table)
  unfolding given
  given-more [] name table = refl
  given-more (n ∷ ns) name table = given-more ns name (put n Generated table)

  -- ---- what a name stands for

  twice : (b : Bool) (x y z : Option (Named T)) → cond b x z ≡ cond b x (cond b y z)
  twice true x y z = refl
  twice false x y z = refl

  exchanged : (a b : Bool) (x y z : Option (Named T)) → (a ≡ true → b ≡ true → ⊥) → cond a x (cond b y z) ≡ cond b y (cond a x z)
  exchanged a b x y z both =
      elim a as (λ v. (v ≡ true → b ≡ true → ⊥) → cond v x (cond b y z) ≡ cond b y (cond v x z)) [
        | true ↦ λ h. elim b as (λ w. (true ≡ true → w ≡ true → ⊥) → x ≡ cond w y x) [
          | true ↦ λ k. absurd (k refl refl)
          | false ↦ λ k. refl
        ] h
        | false ↦ λ h. refl
      ] both

  replaced : (other name : ℕ) (what : Named T) (e : ℕ × Named T) (es : List (ℕ × Named T)) → name ≡ e.0 → cond (is_at (nat_cmp other) e.0) (Some what) (lookup (is_at (nat_cmp other)) es) ≡ cond (is_at (nat_cmp other) name) (Some what) (lookup (is_at (nat_cmp other)) (e ∷ es))
  replaced other name what e es same =
      twice (is_at (nat_cmp other) e.0) (Some what) (Some e.1) (lookup (is_at (nat_cmp other)) es)
      ∙ ap (λ (n : ℕ). cond (is_at (nat_cmp other) n) (Some what) (lookup (is_at (nat_cmp other)) (e ∷ es))) (sym same)

  pub named-put : (name : ℕ) (what : Named T) (table : List (ℕ × Named T)) (other : ℕ) → named (put name what table) other ≡ cond (is_at (nat_cmp other) name) (Some what) (named table other)
  named-put name what [] other = refl
  named-put name what (e ∷ es) other =
      elim (nat_cmp name e.0) as (λ r. nat_cmp name e.0 ≡ r → lookup (is_at (nat_cmp other)) (match_ordering r ((name, what) ∷ e ∷ es) ((e.0, what) ∷ es) (e ∷ put name what es)) ≡ cond (is_at (nat_cmp other) name) (Some what) (lookup (is_at (nat_cmp other)) (e ∷ es))) [
        | Less ↦ λ _. refl
        | Equal ↦ λ is. replaced other name what e es (nat_cmp-IsAntisymmetric name e.0 is)
        | Greater ↦ λ is.
            ap (λ (rest : Option (Named T)). cond (is_at (nat_cmp other) e.0) (Some e.1) rest) (named-put name what es other)
            ∙ exchanged (is_at (nat_cmp other) e.0) (is_at (nat_cmp other) name) (Some e.1) (Some what) (lookup (is_at (nat_cmp other)) es) (apart other name e.0 is)
      ] refl

  pub named_there : (what : Option (Named T)) → is_some (object_of what) ≡ true → is_some what ≡ true
  named_there None h = h
  named_there (Some held) h = refl

  -- the entry of a name in use takes another value
  pub put-set_value : (name : ℕ) (what : Named T) (table : List (ℕ × Named T)) → IsStrictlySortedBy nat_cmp (keys_of table) → is_some (named table name) ≡ true → set_value (is_at (nat_cmp name)) table what ≡ put name what table
  put-set_value name what [] ordered there = absurd (true≢false (sym there))
  put-set_value name what (e ∷ es) ordered there =
      elim (nat_cmp name e.0) as (λ r. nat_cmp name e.0 ≡ r → is_some (cond (is_eq r) (Some e.1) (lookup (is_at (nat_cmp name)) es)) ≡ true → cond (is_eq r) ((e.0, what) ∷ es) (e ∷ set_value (is_at (nat_cmp name)) es what) ≡ match_ordering r ((name, what) ∷ e ∷ es) ((e.0, what) ∷ es) (e ∷ put name what es)) [
        | Less ↦ λ is h. absurd (true≢false (sym h ∙ ap is_some (lookup-none (is_at (nat_cmp name)) es (none_below_head nat_cmp_total name e es ordered is).1)))
        | Equal ↦ λ _ h. refl
        | Greater ↦ λ _ h. ap (λ (rest : List (ℕ × Named T)). e ∷ rest) (put-set_value name what es (sorted_tail nat_cmp e.0 (keys_of es) ordered) h)
      ] refl there

  -- ---- bytes

  module _ (size : T → ℕ) where
    pub total-none : total size [] ≡ 0
    unfolding total
    total-none = refl

    pub total-put : (name : ℕ) (what : Named T) (table : List (ℕ × Named T)) → IsStrictlySortedBy nat_cmp (keys_of table) → total size (put name what table) + size_at size table name ≡ total size table + size_in size what
    unfolding total
    total-put name what table ordered = sum_by-insert_entry (size_in size) nat_cmp_total table name what ordered

    pub total-remove_entry : (name : ℕ) (table : List (ℕ × Named T)) → total size (remove_entry (is_at (nat_cmp name)) table) + size_at size table name ≡ total size table
    unfolding total
    total-remove_entry name table = sum_by-remove_entry (size_in size) (is_at (nat_cmp name)) table

    pub size_at-within : (name : ℕ) (table : List (ℕ × Named T)) → size_at size table name ≤ total size table
    size_at-within name table = omega (arith, total-remove_entry name table)

    pub total-set_value : (name : ℕ) (old what : Named T) (table : List (ℕ × Named T)) → named table name ≡ Some old → total size (set_value (is_at (nat_cmp name)) table what) + size_in size old ≡ total size table + size_in size what
    unfolding total
    total-set_value name old what table is = sum_by-set_value (size_in size) (is_at (nat_cmp name)) table old what is
