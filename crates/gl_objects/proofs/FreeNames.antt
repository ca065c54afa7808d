-- The names that are given: as many as were asked for, and each in use nowhere.
use Rattle.std.proofs.Common.{◌≡◌, ℕ, zero, suc, ◌+◌, ◌<◌, ◌≤◌, Bool, true, false, cond, not, ◌&&◌, ◌||◌, List, [], ◌∷◌, ◌++◌, length, take, is_some, ltb, refl, sym, ap, ◌∙◌, arith, true≢false, inl, inr, append-nil, length-append, length-take, length-take-le, take_all, lt-ltb, le-ltb, nat_cmp}
use Rattle.std.specs.Prelude.{Option, Some}
use Rattle.std.specs.List.{filter, range_with_len, AllByRecursion}
use Rattle.std.specs.Map.{lookup}
use Rattle.std.specs.BTreeMap.{is_at}
use Rattle.std.proofs.lemmas.Bool.{cases_lt}
use Rattle.std.proofs.lemmas.List.{take-append-le}
use Rattle.std.proofs.lemmas.List.Elements.{filter-append}
use Rattle.gl_objects.specs.declared.named.Named.{Named}
use Rattle.gl_objects.specs.Table.{is_among, is_free, AreUsed, given, without, least_free}
use Rattle.gl_objects.specs.Laws.{AreLeastFree}
use Rattle.gl_objects.proofs.Tables.{hit_is, without-given_first}

pub range_more : (a k : ℕ) → range_with_len a (suc k) ≡ range_with_len a k ++ (a + k) ∷ []
range_more a zero = let same : a ≡ a + 0 = omega arith in ap (λ (n : ℕ). n ∷ []) same
range_more a (suc k) =
    let same : (a + 1) + k ≡ a + suc k = omega arith in
    ap (λ ns. a ∷ ns) (range_more (a + 1) k ∙ ap (λ (n : ℕ). range_with_len (a + 1) k ++ n ∷ []) same)

short_case : (n name : ℕ) (ys : List ℕ) (b : Bool) → length ys < n → take n ys ≡ ys → cond b (take n ys ++ name ∷ []) (take n ys) ≡ take n (ys ++ cond b (name ∷ []) [])
short_case n name ys true short whole =
    ap (λ l. l ++ name ∷ []) whole ∙ sym (take_all n (ys ++ name ∷ []) (omega (arith, length-append ys (name ∷ []))))
short_case n name ys false short whole = ap (λ l. take n l) (sym (append-nil ys))

-- one more name, where it passes and there are fewer than n
wanted : (n name : ℕ) (ys : List ℕ) (b : Bool) → cond (ltb (length (take n ys)) n && b) (take n ys ++ name ∷ []) (take n ys) ≡ take n (ys ++ cond b (name ∷ []) [])
wanted n name ys b =
    elim (cases_lt (length (take n ys)) n) [
      | inl less ↦ (
          let short : length ys < n = omega (arith, length-take n ys) in
          let whole : take n ys ≡ ys = take_all n ys (omega arith) in
          ap (λ t. cond (t && b) (take n ys ++ name ∷ []) (take n ys)) (lt-ltb (length (take n ys)) n less) ∙ short_case n name ys b short whole)
      | inr more ↦ (
          let enough : n ≤ length ys = omega (arith, length-take n ys) in
          ap (λ t. cond (t && b) (take n ys ++ name ∷ []) (take n ys)) (le-ltb (length (take n ys)) n more) ∙ sym (take-append-le n ys (cond b (name ∷ []) []) enough))
    ]

module _ {T : Type 0} (table : List (ℕ × Named T)) where
  -- the first n of the free names from 1 on, of so many
  unfoldable pub free_of : ℕ → ℕ → List ℕ
  free_of n k = take n (filter (is_free table) (range_with_len 1 k))

  pub free_of-none : (n : ℕ) → [] ≡ free_of n 0
  unfolding free_of
  free_of-none zero = refl
  free_of-none (suc n) = refl

  -- none where all of them are in use
  pub free_of-used : (n k : ℕ) → AreUsed table k → [] ≡ free_of n k
  unfolding free_of
  free_of-used n k used = free_of-none n ∙ ap (λ l. take n l) (sym used)

  pub free_of-more : (n k j name : ℕ) (names after : List ℕ) → names ≡ free_of n k → 1 + k ≡ name → suc k ≡ j → after ≡ cond (ltb (length names) n && is_free table name) (names ++ name ∷ []) names → after ≡ free_of n j
  unfolding free_of
  free_of-more n k j name names after is here next e =
      let ys = filter (is_free table) (range_with_len 1 k) in
      e
      ∙ ap (λ l. cond (ltb (length l) n && is_free table name) (l ++ name ∷ []) l) is
      ∙ wanted n name ys (is_free table name)
      ∙ ap (λ l. take n l) (sym (ap (filter (is_free table)) (range_more 1 k ∙ ap (λ (m : ℕ). range_with_len 1 k ++ m ∷ []) here) ∙ filter-append (is_free table) (range_with_len 1 k) (name ∷ [])))
      ∙ ap (λ (m : ℕ). take n (filter (is_free table) (range_with_len 1 m))) next

  pub free_of-all : (n j : ℕ) → j ≡ length table + n → free_of n j ≡ least_free table n
  unfolding free_of least_free
  free_of-all n j all = ap (λ (m : ℕ). take n (filter (is_free table) (range_with_len 1 m))) all

-- ---- how many are free

abbrev one_if : Bool → ℕ
one_if true = 1
one_if false = 0

at_most_one : (b : Bool) → one_if b ≤ 1
at_most_one true = omega arith
at_most_one false = omega arith

count_step : (b : Bool) (a : ℕ) (rest : List ℕ) → length (cond b (a ∷ rest) rest) ≡ length rest + one_if b
count_step true a rest = omega arith
count_step false a rest = omega arith

misses : (a key : ℕ) → key < a → is_at (nat_cmp a) key ≡ false
misses a key below =
    elim (is_at (nat_cmp a) key) as (λ b. is_at (nat_cmp a) key ≡ b → b ≡ false) [
      | true ↦ λ hit. let same : a ≡ key = hit_is a key hit in (let no : ⊥ = omega arith in absurd no)
      | false ↦ λ _. refl
    ] refl

-- no entry: all numbers are free
count-none : (T : Type 0) (a m : ℕ) → length (filter (is_free {T = T} []) (range_with_len a m)) ≡ m
count-none T a zero = refl
count-none T a (suc m) = let rest = count-none T (a + 1) m in omega (arith, rest)

-- ---- each is in use nowhere

module _ {T : Type 0} where
  abbrev AllFree : List (ℕ × Named T) → List ℕ → Type 0
  AllFree table names = AllByRecursion (λ name. is_free table name ≡ true) names

  AllFree-take : (table : List (ℕ × Named T)) (n : ℕ) (names : List ℕ) → AllFree table names → AllFree table (take n names)
  AllFree-take table zero names h = tt
  AllFree-take table (suc n) [] h = tt
  AllFree-take table (suc n) (k ∷ ks) h = (h.0, AllFree-take table n ks h.1)

  AllFree-filter : (table : List (ℕ × Named T)) (names : List ℕ) → AllFree table (filter (is_free table) names)
  AllFree-filter table [] = tt
  AllFree-filter table (k ∷ ks) =
      elim (is_free table k) as (λ b. is_free table k ≡ b → AllFree table (cond b (k ∷ filter (is_free table) ks) (filter (is_free table) ks))) [
        | true ↦ λ is. (is, AllFree-filter table ks)
        | false ↦ λ _. AllFree-filter table ks
      ] refl

  AllFree-least_free : (table : List (ℕ × Named T)) (n : ℕ) → AllFree table (least_free table n)
  unfolding least_free
  AllFree-least_free table n = AllFree-take table n _ (AllFree-filter table (range_with_len 1 (length table + n)))

  -- ---- names that are free and given, and forgotten again, leave the table as it was

  free_head : (b : Bool) (x : Named T) (rest : Option (Named T)) → not (is_some (cond b (Some x) rest)) ≡ true → b ≡ false
  free_head true x rest h = absurd (true≢false (sym h))
  free_head false x rest h = refl

  free_tail : (b : Bool) (x : Named T) (rest : Option (Named T)) → not (is_some (cond b (Some x) rest)) ≡ true → not (is_some rest) ≡ true
  free_tail true x rest h = absurd (true≢false (sym h))
  free_tail false x rest h = h

  not_among : (e : ℕ × Named T) (es : List (ℕ × Named T)) (names : List ℕ) → AllFree (e ∷ es) names → is_among names e.0 ≡ false
  not_among e es [] h = refl
  not_among e es (n ∷ ns) h =
      ap (λ b. b || is_among ns e.0) (free_head (is_at (nat_cmp n) e.0) e.1 (lookup (is_at (nat_cmp n)) es) h.0) ∙ not_among e es ns h.1

  AllFree-tail : (e : ℕ × Named T) (es : List (ℕ × Named T)) (names : List ℕ) → AllFree (e ∷ es) names → AllFree es names
  AllFree-tail e es [] h = tt
  AllFree-tail e es (n ∷ ns) h = (free_tail (is_at (nat_cmp n) e.0) e.1 (lookup (is_at (nat_cmp n)) es) h.0, AllFree-tail e es ns h.1)

  without-free : (names : List ℕ) (table : List (ℕ × Named T)) → AllFree table names → without names table ≡ table
  unfolding without
  without-free names [] h = refl
  without-free names (e ∷ es) h =
      ap (λ b. cond (not b) (e ∷ filter (λ x. not (is_among names x.0)) es) (filter (λ x. not (is_among names x.0)) es)) (not_among e es names h)
      ∙ ap (λ (rest : List (ℕ × Named T)). e ∷ rest) (without-free names es (AllFree-tail e es names h))

  pub taken_back : (table : List (ℕ × Named T)) (n i : ℕ) → without (least_free table n) (given (take i (least_free table n)) table) ≡ table
  taken_back table n i = without-given_first (least_free table n) i table ∙ without-free (least_free table n) table (AllFree-least_free table n)

  -- ---- there are as many as were asked for

  abbrev free_count : List (ℕ × Named T) → ℕ → ℕ → ℕ
  free_count table a m = length (filter (is_free table) (range_with_len a m))

  -- an entry below the numbers takes none of them
  count-below : (e : ℕ × Named T) (es : List (ℕ × Named T)) (a m : ℕ) → e.0 < a → free_count (e ∷ es) a m ≡ free_count es a m
  count-below e es a zero below = refl
  count-below e es a (suc m) below =
      let rest = count-below e es (a + 1) m (omega arith) in
      let missed : is_at (nat_cmp a) e.0 ≡ false = misses a e.0 below in
      count_step (is_free (e ∷ es) a) a (filter (is_free (e ∷ es)) (range_with_len (a + 1) m))
      ∙ ap (λ b. free_count (e ∷ es) (a + 1) m + one_if (not (is_some (cond b (Some e.1) (lookup (is_at (nat_cmp a)) es))))) missed
      ∙ ap (λ (n : ℕ). n + one_if (is_free es a)) rest
      ∙ sym (count_step (is_free es a) a (filter (is_free es) (range_with_len (a + 1) m)))

  -- one more entry takes at most one number
  count-more : (e : ℕ × Named T) (es : List (ℕ × Named T)) (a m : ℕ) → free_count es a m ≤ free_count (e ∷ es) a m + 1
  count-more e es a zero = omega arith
  count-more e es a (suc m) =
      let before = count_step (is_free es a) a (filter (is_free es) (range_with_len (a + 1) m)) in
      let after = count_step (is_free (e ∷ es) a) a (filter (is_free (e ∷ es)) (range_with_len (a + 1) m)) in
      elim (is_at (nat_cmp a) e.0) as (λ b. is_at (nat_cmp a) e.0 ≡ b → free_count es a (suc m) ≤ free_count (e ∷ es) a (suc m) + 1) [
        | true ↦ λ hit.
            let same : a ≡ e.0 = hit_is a e.0 hit in
            let rest = count-below e es (a + 1) m (omega arith) in
            let most : one_if (is_free es a) ≤ 1 = at_most_one (is_free es a) in
            omega (arith, before, after, rest, most)
        | false ↦ λ missed.
            let alike : one_if (is_free (e ∷ es) a) ≡ one_if (is_free es a) = ap (λ b. one_if (not (is_some (cond b (Some e.1) (lookup (is_at (nat_cmp a)) es))))) missed in
            let rest = count-more e es (a + 1) m in
            omega (arith, before, after, alike, rest)
      ] refl

  pub enough_free : (table : List (ℕ × Named T)) (a m : ℕ) → m ≤ free_count table a m + length table
  enough_free [] a m = omega (arith, count-none T a m)
  enough_free (e ∷ es) a m = omega (arith, count-more e es a m, enough_free es a m)

  length-least_free : (table : List (ℕ × Named T)) (n : ℕ) → length (least_free table n) ≡ n
  unfolding least_free
  length-least_free table n =
      length-take-le n (filter (is_free table) (range_with_len 1 (length table + n))) (omega (arith, enough_free table 1 (length table + n)))

  pub are_least_free : (table : List (ℕ × Named T)) (n : ℕ) → AreLeastFree table n
  are_least_free table n = record { many = length-least_free table n; free = AllFree-least_free table n }
