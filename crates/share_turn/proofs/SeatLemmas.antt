-- Facts on lists of a turn's seats.
use Rattle.std.proofs.Common.{◌≡◌, ℕ, ◌+◌, ◌<◌, ◌≤◌, List, [], ◌∷◌, ◌++◌, length, map, sym, subst, arith}
use Rattle.std.specs.Prelude.{All, Contains}
use Rattle.std.proofs.lemmas.List.Elements.{All-nil, All-head, All-tail, All-cons, All-append, All-same, All-weaker}
use Rattle.share_turn.specs.declared.annals.Annals.{Ghosts}
use Rattle.share_turn.specs.declared.view.Part.{Part}
use Rattle.share_turn.specs.declared.seat.TurnSeat.{TurnSeat}
use Rattle.share_turn.specs.declared.turn.Turn.{Turn}
use Rattle.share_turn.specs.View.{Fits}
use Rattle.share_turn.specs.Turn.{IsDealt, IsIn, IsAllOf, IsSeatOf, IsInOrderFrom, number_of, own_part, seat_count}
use Rattle.share_turn.proofs.Dealing.{All-under_map, InOrder-contains}

module _ {T E : Type 0} {g : Ghosts T E} where
  -- seats dealt for one value are dealt for one that equals it
  pub dealt-same : (t : Turn T E) (a b : T) (seats : List (TurnSeat T E g)) → a ≡ b → All (IsDealt t a) seats → All (IsDealt t b) seats
  dealt-same t a b seats e all = subst (λ (v : T). All (IsDealt t v) seats) e all

  -- a turn's seats are some seats
  pub all_seats-some : (t : Turn T E) (seats : List (TurnSeat T E g)) → 1 ≤ seat_count t → IsAllOf t seats → 0 < length seats
  all_seats-some t [] some_seat all = let h = (all.each_number 0 (omega arith)).1 in omega (arith, h)
  all_seats-some t (s ∷ ss) some_seat all = omega arith

  -- what fits the parts that were gathered holds of each seat
  pub gathered-in : (value : T) (seats : List (TurnSeat T E g)) (own : Part E) (kept : List (Part E)) → map own_part seats ≡ kept ++ own ∷ []
      → All (Fits g.number (g.entries value)) (own ∷ kept) → All (IsIn value) seats
  gathered-in value seats own kept parts fit =
      let F : Part E → Type 0 = Fits g.number (g.entries value) in
      let whole : All F (kept ++ own ∷ []) = All-append F kept (own ∷ []) (All-tail F own kept fit) (All-cons F own [] (All-head F own kept fit) (All-nil F)) in
      All-weaker (λ s. F (own_part s)) (IsIn value) (λ s (f : F (own_part s)). record { own = sym f.own_entries; begins = f.begins })
      seats (All-under_map number_of F own_part seats (All-same F (map own_part seats) (kept ++ own ∷ []) parts whole))

  -- a turn's seats in the order of their numbers, as many as it was made for, are all of it
  pub IsAllOf-in_order : (t : Turn T E) (seats : List (TurnSeat T E g)) → All (λ s. IsSeatOf s t) seats → IsInOrderFrom 0 seats → length seats ≡ seat_count t → IsAllOf t seats
  IsAllOf-in_order t seats of_turn order long = record {
    of_turn = of_turn;
    each_number = λ k below. let e : 0 + k ≡ k = omega arith in subst (Contains (map number_of seats)) e (InOrder-contains number_of 0 seats order k (let n : ℕ = length seats in let e' : n ≡ seat_count t = long in omega arith));
  }
