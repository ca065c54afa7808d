-- How the numbers of a turn are dealt, one after another, and gathered again.
use Rattle.std.proofs.Common.{◌≡◌, ℕ, zero, suc, ◌+◌, ◌-◌, ◌<◌, ◌≤◌, List, [], ◌∷◌, ◌++◌, length, map, get_or, sym, refl, ap, ◌∙◌, subst, append_assoc, arith}
use Rattle.std.specs.Prelude.{All, Contains}
use Rattle.std.proofs.lemmas.List.{map-append}
use Rattle.std.proofs.lemmas.List.Elements.{All-nil, All-cons, All-head, All-tail}
use Rattle.share_turn.specs.declared.view.Part.{Part}
use Rattle.share_turn.specs.declared.view.View.{View}
use Rattle.share_turn.specs.Annals.{entries_of}
use Rattle.share_turn.specs.View.{rest_of, first_of, dealer, dealt, part_of, parts_from, first_view}

module _ {E : Type 0} (number : E → ℕ) (seats : ℕ) (history : List E) where
  -- the first seat when the numbers below k are dealt
  abbrev pub undealt : ℕ → View E
  undealt k = record (first_view number seats history) { kept = parts_from number history k (seats - k) }

  pub undealt-kept : (k : ℕ) → k < seats → (undealt k).kept ≡ part_of number history k ∷ (undealt (k + 1)).kept
  undealt-kept k more =
      let e : seats - k ≡ suc (seats - (k + 1)) = omega arith in let n : suc k ≡ k + 1 = omega arith in
      ap (parts_from number history k) e ∙ ap (λ (m : ℕ). part_of number history k ∷ parts_from number history m (seats - (k + 1))) n

  pub dealer-undealt : (k : ℕ) → k < seats → dealer (undealt k) ≡ undealt (k + 1)
  dealer-undealt k more = ap (λ (l : List (Part E)). record (first_view number seats history) { kept = rest_of l }) (undealt-kept k more)

  pub dealt-undealt : (k : ℕ) → k < seats → (dealt (undealt k)).own ≡ part_of number history k
  dealt-undealt k more = ap (first_of (part_of number history 0)) (undealt-kept k more)

  -- the part of a number has the entries of that number in what it has seen
  pub part_knows_own : (k : ℕ) (p : Part E) → p ≡ part_of number history k → p.mine ≡ entries_of number p.number p.seen
  part_knows_own k p is = subst (λ (q : Part E). q.mine ≡ entries_of number q.number q.seen) (sym is) refl

  pub undealt-whole : (k : ℕ) → seats ≤ k → (undealt k).kept ≡ []
  undealt-whole k all = let e : seats - k ≡ 0 = omega arith in ap (parts_from number history k) e

-- Lists of seats, of which a number is read.
module _ {A : Type 0} (number_of : A → ℕ) where
  -- as `IsInOrderFrom`, of any list
  abbrev pub InOrder : ℕ → List A → Type 0
  InOrder first xs = (k : ℕ) (d : A) → k < length xs → number_of (get_or xs k d) ≡ first + k

  pub InOrder-push : (first : ℕ) (xs : List A) (x : A) → InOrder first xs → number_of x ≡ first + length xs → InOrder first (xs ++ x ∷ [])
  InOrder-push first [] x order is zero d within = is
  InOrder-push first [] x order is (suc k) d within = absurd (omega arith)
  InOrder-push first (y ∷ ys) x order is zero d within = order zero d (omega arith)
  InOrder-push first (y ∷ ys) x order is (suc k) d within =
      let later : InOrder (suc first) ys = λ j e small. let h : number_of (get_or ys j e) ≡ first + suc j = order (suc j) e (omega arith) in omega arith in
      let h : number_of (get_or (ys ++ x ∷ []) k d) ≡ suc first + k = InOrder-push (suc first) ys x later (omega arith) k d (omega arith) in omega arith

  pub InOrder-cons : (first : ℕ) (x : A) (xs : List A) → number_of x ≡ first → InOrder (first + 1) xs → InOrder first (x ∷ xs)
  InOrder-cons first x xs is order zero d within = omega arith
  InOrder-cons first x xs is order (suc k) d within = let h : number_of (get_or xs k d) ≡ first + 1 + k = order k d (omega arith) in omega arith

  -- each number from the first on is that of an element
  pub InOrder-contains : (first : ℕ) (xs : List A) → InOrder first xs → (k : ℕ) → k < length xs → Contains (map number_of xs) (first + k)
  InOrder-contains first [] order k within = absurd (omega arith)
  InOrder-contains first (x ∷ xs) order zero within = (zero, omega arith, order zero x within)
  InOrder-contains first (x ∷ xs) order (suc k) within =
      let later : InOrder (suc first) xs = λ j e small. let h : number_of (get_or xs j e) ≡ first + suc j = order (suc j) e (omega arith) in omega arith in
      let there = InOrder-contains (suc first) xs later k (omega arith) in let same : suc first + k ≡ first + suc k = omega arith in
      subst (Contains (map number_of (x ∷ xs))) same (suc there.0, (let h : there.0 < length (map number_of xs) = there.1 in omega arith), there.2)

  -- what holds of each mapped element holds of each element under the map
  pub All-under_map : {B : Type 0} (P : B → Type 0) (f : A → B) (xs : List A) → All P (map f xs) → All (λ x. P (f x)) xs
  All-under_map P f [] all = All-nil (λ x. P (f x))
  All-under_map P f (x ∷ xs) all = All-cons (λ y. P (f y)) x xs (All-head P (f x) (map f xs) all) (All-under_map P f xs (All-tail P (f x) (map f xs) all))

-- The parts of seats that one of them takes in, the last of the list first.
module _ {A E : Type 0} (part : A → Part E) where
  pub parts-last : (all rest : List A) (x : A) (kept : List (Part E)) → all ≡ rest ++ x ∷ [] → kept ≡ [] → map part all ≡ map part rest ++ (kept ++ part x ∷ [])
  parts-last all rest x kept is none = ap (map part) is ∙ (map-append part rest (x ∷ []) ∙ ap (λ (l : List (Part E)). map part rest ++ (l ++ part x ∷ [])) (sym none))

  pub parts-joined : (all rest : List A) (x : A) (kept beside : List (Part E)) (own : Part E) → all ≡ rest ++ x ∷ [] → beside ≡ []
      → map part all ++ (kept ++ own ∷ []) ≡ map part rest ++ ((part x ∷ (beside ++ kept)) ++ own ∷ [])
  parts-joined all rest x kept beside own is none =
      ap (λ (l : List (Part E)). l ++ (kept ++ own ∷ [])) (parts-last all rest x [] is refl)
      ∙ (append_assoc (map part rest) (part x ∷ []) (kept ++ own ∷ []) ∙ ap (λ (l : List (Part E)). map part rest ++ (part x ∷ ((l ++ kept) ++ own ∷ []))) (sym none))
