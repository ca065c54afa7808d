-- What follows from the rule of a turn.
use Rattle.std.proofs.Common.{◌≡◌, ℕ, zero, suc, ◌+◌, ◌<◌, ◌≤◌, eq-eqb, ne_eqb, cond, Bool, List, [], ◌∷◌, length, get_or, sym, refl, ap, ◌∙◌, subst, ⊎_elim, arith}
use Rattle.std.specs.Prelude.{Contains, count_by, nat_lt, All, Option}
use Rattle.atomic_table.specs.Table.{State}
use Rattle.std.proofs.lemmas.List.Sums.{sum_by-cons}
use Rattle.std.proofs.lemmas.Bool.Decides.{nat_tests}
use mathlib.Core.Logic.{dite}
use native.Mathlib.Decide.{ℕ_discrete}
use Rattle.share_turn.specs.declared.view.Part.{Part}
use Rattle.share_turn.specs.declared.view.Opening.{Opening}
use Rattle.share_turn.specs.declared.view.View.{View}
use Rattle.share_turn.specs.View.{bears, kept_by, keepers, parts_of}
use Rattle.share_turn.specs.Rule.{IsKept}
use Rattle.share_turn.specs.Laws.{KeepsAt, SeatsDiffer, MetTakesWereMade, EntriesAreKept}
use Rattle.share_turn.proofs.Keeping.{at_most_one}
use Rattle.share_turn.proofs.Totals.{two_terms_within, some_term}

module _ {E : Type 0} where
  -- a part of the number k counts
  part_counts : (k : ℕ) (ps : List (Part E)) (p : Part E) (i : ℕ) → i < length ps → get_or ps i p ≡ p → p.number ≡ k → 1 ≤ count_by (bears k) ps
  part_counts k [] p i within at is = absurd (omega arith)
  part_counts k (q ∷ qs) p zero within at is =
      let x : ℕ = cond (bears k q) 1 0 in let one : x ≡ 1 = ap (λ (b : Bool). cond b 1 0) (eq-eqb q.number k (ap (λ (z : Part E). z.number) at ∙ is)) in omega (arith, sum_by-cons (λ z. cond {A = ℕ} (bears k z) 1 0) q qs)
  part_counts k (q ∷ qs) p (suc i) within at is = omega (arith, sum_by-cons (λ z. cond {A = ℕ} (bears k z) 1 0) q qs, part_counts k qs p i (omega arith) at is)

  -- where one counts, there is one
  some_part : (k : ℕ) (ps : List (Part E)) → 0 < count_by (bears k) ps → (p : Part E) × Contains ps p × (p.number ≡ k)
  some_part k [] more = absurd (omega arith)
  some_part k (q ∷ qs) more = dite (ℕ_discrete q.number k)
      (λ is. (q, (zero, omega arith, refl), is))
      (λ other.
      let x : ℕ = cond (bears k q) 1 0 in let none : x ≡ 0 = ap (λ (b : Bool). cond b 1 0) (ne_eqb q.number k other) in
      let later = some_part k qs (omega (arith, sum_by-cons (λ z. cond {A = ℕ} (bears k z) 1 0) q qs)) in
      (later.0, (suc later.1.0, (let h : later.1.0 < length qs = later.1.1 in omega arith), later.1.2), later.2))

module _ {T E : Type 0} (entries : T → List E) (number : E → ℕ) where
  -- what the rule of a turn's table says
  abbrev Kept : Opening T → State (Option T) (View E) → Type 0
  Kept opened = IsKept entries number opened.seats

  pub seats_differ : SeatsDiffer Kept
  seats_differ opened s r i j k l apart (v, at, (p, a, is)) (w, at', (q, b, is')) same =
      let seats : ℕ = opened.seats in
      let one : 1 ≤ kept_by k v = part_counts k (parts_of v) p a.0 a.1 a.2 is in let other : 1 ≤ kept_by k w = part_counts k (parts_of w) q b.0 b.1 b.2 (is' ∙ sym same) in
      let both : kept_by k v + kept_by k w ≤ keepers k s.views = two_terms_within (kept_by k) s.views i j v w apart at at' in
      let most : ℕ = cond (nat_lt k seats) 1 0 in let sum : keepers k s.views ≡ most = r.once k in let small : most ≤ 1 = at_most_one (nat_lt k seats) in omega arith

  pub met_takes_were_made : MetTakesWereMade Kept
  met_takes_were_made opened s r i v at some_take =
      let met : v.met_take ≤ r.takes = (r.counts.within i v at).1 in
      ⊎_elim (λ none. absurd (let t : ℕ = r.takes in let z : t ≡ 0 = none in omega arith))
      (λ z. (z.0, z.1, z.2, subst (λ (n : ℕ). v.met_take ≤ n) (sym z.3) met)) r.counts.newest

  entries_kept : (seats : ℕ) (s : State (Option T) (View E)) (r : IsKept entries number seats s) → All (λ e. (i : ℕ) × KeepsAt s.views i (number e)) r.history
  entries_kept seats s r i d within =
      let n : ℕ = number (get_or r.history i d) in let below : n < seats = r.numbered i d within in
      let most : ℕ = cond (nat_lt n seats) 1 0 in let one : most ≡ 1 = grind (arith, nat_tests) in let is : keepers n s.views ≡ most = r.once n in
      let at = some_term (kept_by n) s.views (omega arith) in let part = some_part n (parts_of at.1) at.3 in
      (at.0, (at.1, at.2, (part.0, part.1, part.2)))

  pub entries_are_kept : EntriesAreKept entries number Kept
  entries_are_kept opened s r = (r, entries_kept opened.seats s r)
