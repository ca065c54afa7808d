-- Names from 1 on that are all in use, and stay so.
use Rattle.std.proofs.Common.{◌≡◌, ℕ, zero, suc, ◌+◌, ◌<◌, ◌≤◌, Bool, true, false, cond, not, List, [], ◌∷◌, ◌++◌, length, is_some, refl, sym, ap, ◌∙◌, arith, nat_cmp}
use Rattle.std.specs.Prelude.{Option, Some, None}
use Rattle.std.specs.Cmp.{nat_cmp_total, eq_by_cmp_equiv}
use Rattle.std.specs.Ordering.{eq_by_cmp}
use Rattle.std.specs.List.{filter, range_with_len}
use Rattle.std.specs.List.Sorted.{IsStrictlySortedBy}
use Rattle.std.specs.Map.{remove_entry, keys_of}
use Rattle.std.specs.BTreeMap.{is_at}
use Rattle.std.proofs.lemmas.List.Elements.{filter-append}
use Rattle.std.proofs.lemmas.Map.{lookup-remove_entry}
use Rattle.std.proofs.lemmas.Map.Keys.{IsDistinct-from_sorted}
use Rattle.gl_objects.specs.declared.named.Named.{Named}
use Rattle.gl_objects.specs.Table.{named, put, is_free, AreUsed}
use Rattle.gl_objects.proofs.Tables.{hit_is, named-put}
use Rattle.gl_objects.proofs.FreeNames.{range_more, enough_free}

not_empty : (n : ℕ) (ns : List ℕ) → n ∷ ns ≡ [] → ⊥
not_empty n ns h = let e = ap length h in omega (arith, e)

-- the first of a range in which nothing passes
none_in_fewer : (p : ℕ → Bool) (a k m : ℕ) → k ≤ m → filter p (range_with_len a m) ≡ [] → filter p (range_with_len a k) ≡ []
none_in_fewer p a zero m within h = refl
none_in_fewer p a (suc k) zero within h = let no : ⊥ = omega arith in absurd no
none_in_fewer p a (suc k) (suc m) within h =
    elim (p a) as (λ b. cond b (a ∷ filter p (range_with_len (a + 1) m)) (filter p (range_with_len (a + 1) m)) ≡ [] → cond b (a ∷ filter p (range_with_len (a + 1) k)) (filter p (range_with_len (a + 1) k)) ≡ []) [
      | true ↦ λ e. absurd (not_empty a (filter p (range_with_len (a + 1) m)) e)
      | false ↦ λ e. none_in_fewer p (a + 1) k m (omega arith) e
    ] h

-- what passes in no range doesn't where less passes below a limit
none_passes_more : (p q : ℕ → Bool) (limit a m : ℕ) → a + m ≤ limit → ((n : ℕ) → n < limit → p n ≡ false → q n ≡ false) → filter p (range_with_len a m) ≡ [] → filter q (range_with_len a m) ≡ []
none_passes_more p q limit a zero within less h = refl
none_passes_more p q limit a (suc m) within less h =
    elim (p a) as (λ b. p a ≡ b → cond b (a ∷ filter p (range_with_len (a + 1) m)) (filter p (range_with_len (a + 1) m)) ≡ [] → cond (q a) (a ∷ filter q (range_with_len (a + 1) m)) (filter q (range_with_len (a + 1) m)) ≡ []) [
      | true ↦ λ _ e. absurd (not_empty a (filter p (range_with_len (a + 1) m)) e)
      | false ↦ λ is e.
          ap (λ b. cond b (a ∷ filter q (range_with_len (a + 1) m)) (filter q (range_with_len (a + 1) m))) (less a (omega arith) is)
          ∙ none_passes_more p q limit (a + 1) m (omega arith) less e
    ] refl h

apart_misses : (name other : ℕ) → other < name → is_at (nat_cmp name) other ≡ false
apart_misses name other below =
    elim (is_at (nat_cmp name) other) as (λ b. is_at (nat_cmp name) other ≡ b → b ≡ false) [
      | true ↦ λ hit. let same : name ≡ other = hit_is name other hit in (let no : ⊥ = omega arith in absurd no)
      | false ↦ λ _. refl
    ] refl

one_hit : (name : ℕ) (x y : ℕ) → is_at (nat_cmp name) x ≡ true → is_at (nat_cmp name) y ≡ eq_by_cmp nat_cmp x y
one_hit name x y hit = ap (λ (n : ℕ). is_at (nat_cmp n) y) (hit_is name x hit)

module _ {T : Type 0} where
  pub AreUsed-alike : (table other : List (ℕ × Named T)) (k : ℕ) → table ≡ other → AreUsed other k → AreUsed table k
  AreUsed-alike table other k same used = ap (λ (t : List (ℕ × Named T)). filter (is_free t) (range_with_len 1 k)) same ∙ used

  pub AreUsed-end : (table : List (ℕ × Named T)) (k j : ℕ) → j ≡ k → AreUsed table k → AreUsed table j
  AreUsed-end table k j same used = ap (λ (n : ℕ). filter (is_free table) (range_with_len 1 n)) same ∙ used

  pub AreUsed-more : (table : List (ℕ × Named T)) (k name j : ℕ) → AreUsed table k → is_some (named table name) ≡ true → k + 1 ≡ name → suc k ≡ j → AreUsed table j
  AreUsed-more table k name j used there here next =
      let here_too : 1 + k ≡ name = omega (arith, here) in
      let all : AreUsed table (suc k) =
      ap (filter (is_free table)) (range_more 1 k ∙ ap (λ (n : ℕ). range_with_len 1 k ++ n ∷ []) here_too)
      ∙ filter-append (is_free table) (range_with_len 1 k) (name ∷ [])
      ∙ ap (λ l. l ++ cond (is_free table name) (name ∷ []) []) used
      ∙ ap (λ b. cond (not b) (name ∷ []) []) there in
      AreUsed-end table (suc k) j (sym next) all

  still_used : (b : Bool) (what : Named T) (rest : Option (Named T)) → not (is_some rest) ≡ false → not (is_some (cond b (Some what) rest)) ≡ false
  still_used true what rest h = refl
  still_used false what rest h = h

  pub AreUsed-put : (name : ℕ) (what : Named T) (table : List (ℕ × Named T)) (k : ℕ) → AreUsed table k → AreUsed (put name what table) k
  AreUsed-put name what table k used =
      none_passes_more (is_free table) (is_free (put name what table)) (1 + k) 1 k (omega arith)
      (λ other _ h. ap (λ w. not (is_some w)) (named-put name what table other) ∙ still_used (is_at (nat_cmp other) name) what (named table other) h) used

  pub AreUsed-remove_entry : (name : ℕ) (table : List (ℕ × Named T)) (full k : ℕ) → IsStrictlySortedBy nat_cmp (keys_of table) → k ≤ full → (0 < k → k < name) → AreUsed table full → AreUsed (remove_entry (is_at (nat_cmp name)) table) k
  AreUsed-remove_entry name table full zero ordered within apart used = refl
  AreUsed-remove_entry name table full (suc k) ordered within apart used =
      let below : suc k < name = apart (omega arith) in
      none_passes_more (is_free table) (is_free (remove_entry (is_at (nat_cmp name)) table)) name 1 (suc k) (omega (arith, below))
      (λ other less h.
      ap (λ w. not (is_some w)) (lookup-remove_entry (eq_by_cmp_equiv nat_cmp_total) (is_at (nat_cmp name)) (one_hit name) other table (IsDistinct-from_sorted nat_cmp (keys_of table) ordered))
      ∙ ap (λ b. not (is_some (cond b None (named table other)))) (apart_misses name other less)
      ∙ h)
      (none_in_fewer (is_free table) 1 (suc k) full within used)

  pub AreUsed-within : (table : List (ℕ × Named T)) (k : ℕ) → AreUsed table k → k ≤ length table
  AreUsed-within table k used = let none = ap length used in omega (arith, none, enough_free table 1 k)
