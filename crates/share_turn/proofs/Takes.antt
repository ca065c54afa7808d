-- How each kind of step keeps the count of a turn's takes.
use Rattle.std.proofs.Common.{◌≡◌, ℕ, ◌+◌, ◌<◌, ◌≤◌, ◌≢◌, true, false, List, [], ◌∷◌, ◌++◌, set, sym, refl, ap, ◌∙◌, subst, inl, inr, ⊎_elim, arith}
use Rattle.std.proofs.lemmas.Bool.Decides.{nat_tests}
use mathlib.Core.Logic.{dite}
use mathlib.Core.Option.{some}
use native.Mathlib.Decide.{ℕ_discrete}
use lib.ListN.{get_elem?}
use Rattle.atomic_table.proofs.Lists.{at_set, set_here, set_else, at_longer, at_snoc}
use Rattle.share_turn.specs.declared.view.View.{View}
use Rattle.share_turn.specs.View.{later_of, joined, spent}
use Rattle.share_turn.specs.Rule.{SomeTook, IsTakes}
use Rattle.share_turn.proofs.Totals.{place_within, one_at_place}

pub upto : (a : ℕ) → a ≤ a
upto a = omega arith

within_more : (a b : ℕ) → a ≤ b → a ≤ b + 1
within_more a b within = omega arith

pub one_newer : (a b : ℕ) → a ≤ b → a < b + 1
one_newer a b within = omega arith

pub above_none : (a b : ℕ) → a < b → 0 < b
above_none a b below = omega arith

later_within : (a b c : ℕ) → a ≤ c → b ≤ c → later_of a b ≤ c
later_within a b c x y = grind (arith, nat_tests)

pub later_below : (a b c : ℕ) → a < c → b < c → later_of a b < c
later_below a b c x y = grind (arith, nat_tests)

later_of-first : (a b c : ℕ) → a ≡ c → b ≤ c → later_of a b ≡ c
later_of-first a b c x y = grind (arith, nat_tests)

later_of-second : (a b c : ℕ) → a ≤ c → b ≡ c → later_of a b ≡ c
later_of-second a b c x y = grind (arith, nat_tests)

module _ {E : Type 0} where
  -- what is said of each view
  abbrev Within : ℕ → View E → Type 0
  Within takes v = (v.last_take ≤ takes) × (v.met_take ≤ takes)

  abbrev HasNone : View E → Type 0
  HasNone v = v.active ≡ false → v.last_take ≡ 0

  -- the seat that made a take bears it still when its view is replaced by one with the same last take
  still_took : (views : List (View E)) (id : ℕ) (v w : View E) (take : ℕ) → get_elem? views id ≡ some v → w.last_take ≡ v.last_take → SomeTook views take → SomeTook (set views id w) take
  still_took views id v w take at same (i, u, there, is) = dite (ℕ_discrete i id)
      (λ here. (id, w, set_here views id w (place_within views id v at), same ∙ (ap (λ (x : View E). x.last_take) (one_at_place views id v u at (subst (λ (k : ℕ). get_elem? views k ≡ some u) here there)) ∙ is)))
      (λ else. (i, u, set_else views id i w else ∙ there, is))

  -- a seat makes the next take
  pub taken_counts : (takes : ℕ) (views : List (View E)) (id : ℕ) (v w : View E) → IsTakes takes views → get_elem? views id ≡ some v
      → w.last_take ≡ takes + 1 → w.met_take ≡ v.met_take → w.active ≡ true → IsTakes (takes + 1) (set views id w)
  taken_counts takes views id v w old at new met act = record {
    within = λ i u e. ⊎_elim
        (λ t. subst (Within (takes + 1)) t.1 ((let a : ℕ = w.last_take in let is : a ≡ takes + 1 = new in omega arith), subst (λ (n : ℕ). n ≤ takes + 1) (sym met) (within_more v.met_take takes (old.within id v at).1)))
        (λ t. (within_more u.last_take takes (old.within i u t.1).0, within_more u.met_take takes (old.within i u t.1).1))
        (at_set views id i w u e);
    newest = inr (id, w, set_here views id w (place_within views id v at), new);
    spent_has_none = λ i u e. ⊎_elim (λ t. subst HasNone t.1 (λ no. absurd (cc))) (λ t. old.spent_has_none i u t.1) (at_set views id i w u e);
  }

  -- a seat's view is replaced by one with the same last take
  pub same_counts : (takes : ℕ) (views : List (View E)) (id : ℕ) (v w : View E) → IsTakes takes views → get_elem? views id ≡ some v
      → w.last_take ≡ v.last_take → w.met_take ≤ takes → w.active ≡ v.active → IsTakes takes (set views id w)
  same_counts takes views id v w old at same met act = record {
    within = λ i u e. ⊎_elim
        (λ t. subst (Within takes) t.1 (subst (λ (n : ℕ). n ≤ takes) (sym same) (old.within id v at).0, met))
        (λ t. old.within i u t.1)
        (at_set views id i w u e);
    newest = ⊎_elim inl (λ z. inr (still_took views id v w takes at same z)) old.newest;
    spent_has_none = λ i u e. ⊎_elim (λ t. subst HasNone t.1 (λ no. same ∙ old.spent_has_none id v at (sym act ∙ no))) (λ t. old.spent_has_none i u t.1) (at_set views id i w u e);
  }

  -- a new seat has made and met none
  pub longer_counts : (takes : ℕ) (views : List (View E)) (u : View E) → IsTakes takes views → u.last_take ≡ 0 → u.met_take ≡ 0 → IsTakes takes (views ++ u ∷ [])
  longer_counts takes views u old none unmet = record {
    within = λ i x e. ⊎_elim (λ z. old.within i x z)
        (λ z. subst (Within takes) z ((let a : ℕ = u.last_take in let is : a ≡ 0 = none in omega arith), (let a : ℕ = u.met_take in let is : a ≡ 0 = unmet in omega arith)))
        (at_snoc views u x i e);
    newest = ⊎_elim inl (λ z. inr (z.0, z.1, at_longer views (u ∷ []) z.0 z.1 z.2, z.3)) old.newest;
    spent_has_none = λ i x e. ⊎_elim (λ z. old.spent_has_none i x z) (λ z. subst HasNone z (λ no. none)) (at_snoc views u x i e);
  }

  -- a seat that takes another in bears the later of their last takes
  pub joined_counts : (takes : ℕ) (views : List (View E)) (id : ℕ) (v : View E) (other : ℕ) (w : View E) → IsTakes takes views → get_elem? views id ≡ some v → get_elem? views other ≡ some w → other ≢ id
      → v.active ≡ true → IsTakes takes (set (set views id (joined v w)) other spent)
  joined_counts takes views id v other w old at there two act =
      let b : View E = joined v w in let once : List (View E) = set views id b in
      let here : get_elem? once other ≡ some w = set_else views id other b two ∙ there in
      let bears : get_elem? (set once other spent) id ≡ some b = set_else once other id spent (λ is. two (sym is)) ∙ set_here views id b (place_within views id v at) in record {
        within = λ i x e. ⊎_elim (λ t. subst (Within takes) t.1 ((let z : 0 ≤ takes = omega arith in z), (let z : 0 ≤ takes = omega arith in z)))
            (λ t. ⊎_elim
            (λ z. subst (Within takes) z.1 (later_within v.last_take w.last_take takes (old.within id v at).0 (old.within other w there).0, (old.within id v at).1))
            (λ z. old.within i x z.1)
            (at_set views id i b x t.1))
            (at_set once other i spent x e);
        newest = ⊎_elim inl
            (λ z. inr (dite (ℕ_discrete z.0 id)
            (λ is. (
              id,
              b,
              bears,
              later_of-first v.last_take w.last_take takes
                  (ap (λ (x : View E). x.last_take) (one_at_place views id v z.1 at (subst (λ (k : ℕ). get_elem? views k ≡ some z.1) is z.2)) ∙ z.3) (old.within other w there).0,
            ))
            (λ else. dite (ℕ_discrete z.0 other)
            (λ is. (
              id,
              b,
              bears,
              later_of-second v.last_take w.last_take takes (old.within id v at).0
                  (ap (λ (x : View E). x.last_take) (one_at_place views other w z.1 there (subst (λ (k : ℕ). get_elem? views k ≡ some z.1) is z.2)) ∙ z.3),
            ))
            (λ apart. (z.0, z.1, set_else once other z.0 spent apart ∙ (set_else views id z.0 b else ∙ z.2), z.3)))))
            old.newest;
        spent_has_none = λ i x e. ⊎_elim (λ t. subst HasNone t.1 (λ no. refl))
            (λ t. ⊎_elim (λ z. subst HasNone z.1 (λ no. absurd (cc))) (λ z. old.spent_has_none i x z.1) (at_set views id i b x t.1))
            (at_set once other i spent x e);
      }
