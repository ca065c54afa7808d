-- What a contract sees of a turn and of its seats.
use Rattle.std.specs.Prelude.{◌≡◌, ℕ, ◌+◌, ◌<◌, ◌≤◌, true, false, List, ◌++◌, length, map, slice_index_or, Contains, All}
use mathlib.Core.List.{IsPrefix}
use Rattle.atomic_table.specs.Seated.{TableId}
use Rattle.share_turn.specs.declared.annals.Annals.{Ghosts}
use Rattle.share_turn.specs.declared.view.Part.{Part}
use Rattle.share_turn.specs.declared.seat.TurnSeat.{TurnSeat}
use Rattle.share_turn.specs.declared.turn.Turn.{Turn}
use Rattle.share_turn.specs.Annals.{entries_of, GoesOnBy}

-- which turn it is; own
abbrev pub turn_id : {T E : Type 0} → Turn T E → TableId
turn_id t = t.table.shared.table_id

-- the number of seats that the turn was made for; own
abbrev pub seat_count : {T E : Type 0} → Turn T E → ℕ
seat_count t = t.table.shared.key.seats

-- the value as the turn was opened over it; own
abbrev pub opened_value : {T E : Type 0} → Turn T E → T
opened_value t = t.table.shared.key.value.value

module _ {T E : Type 0} {g : Ghosts T E} where
  -- the seat's number among those of its turn; own
  abbrev pub number_of : TurnSeat T E g → ℕ
  number_of s = s.seat.me.0.own.number

  -- which turn the seat is of; own
  abbrev pub turn_of : TurnSeat T E g → TableId
  turn_of s = s.seat.table_id

  -- the number of seats of its turn; own
  abbrev pub seats_beside : TurnSeat T E g → ℕ
  seats_beside s = s.seat.me.0.seats

  -- the seat's number and its two lists; own
  abbrev pub own_part : TurnSeat T E g → Part E
  own_part s = s.seat.me.0.own

  -- the entries that the seat made, in their order; own
  abbrev pub mine : TurnSeat T E g → List E
  mine s = s.seat.me.0.own.mine

  -- the history that the seat has seen; own
  abbrev pub seen : TurnSeat T E g → List E
  seen s = s.seat.me.0.own.seen

  -- the entries that the seat made are those of its number in the history that it has seen; own
  abbrev pub KnowsOwn : TurnSeat T E g → Type 0
  KnowsOwn s = mine s ≡ entries_of g.number (number_of s) (seen s)

  -- how many of the seat's tries met a value that was out; own
  abbrev pub looks : TurnSeat T E g → ℕ
  looks s = s.seat.me.0.looks

  -- the word that the last of them met; own
  abbrev pub found : TurnSeat T E g → ℕ
  found s = s.seat.me.0.found

  -- which of the turn's takes was the seat's own last, counted from 1; own
  abbrev pub last_take : TurnSeat T E g → ℕ
  last_take s = s.seat.me.0.last_take

  -- which take was under way when the last of its tries failed; own
  abbrev pub met_take : TurnSeat T E g → ℕ
  met_take s = s.seat.me.0.met_take

  -- the seat has the value; own
  abbrev pub IsHolding : TurnSeat T E g → Type 0
  IsHolding s = s.seat.me.0.holding ≡ true

  -- the seat doesn't have it; own
  abbrev pub IsIdle : TurnSeat T E g → Type 0
  IsIdle s = s.seat.me.0.holding ≡ false

  -- the seat is one of this turn; own
  abbrev pub IsSeatOf : TurnSeat T E g → Turn T E → Type 0
  IsSeatOf s t = (turn_of s ≡ turn_id t) × (seats_beside s ≡ seat_count t)

  -- it is the same seat of the same turn; own
  abbrev pub IsSameSeat : TurnSeat T E g → TurnSeat T E g → Type 0
  IsSameSeat old new = (turn_of new ≡ turn_of old) × (seats_beside new ≡ seats_beside old) × (number_of new ≡ number_of old)

  -- the seat looked once and met the value out, by a take newer than its own last, and so of another seat. All else of it is as before; own
  pub record LooksOnly (old new : TurnSeat T E g) : Type 0 where
    pub same : IsSameSeat old new
    pub idle : IsIdle new
    pub mine_stays : mine new ≡ mine old
    pub seen_stays : seen new ≡ seen old
    pub risen : looks new ≡ looks old + 1
    pub met : found new ≡ 1
    pub take_stays : last_take new ≡ last_take old
    pub newer : last_take old < met_take new
    pub no_older : met_take old ≤ met_take new
    pub several : 1 < seats_beside old

  -- the value's entries are those that the seat has seen, followed by entries of its own number; own
  abbrev pub AddsOwn : TurnSeat T E g → T → Type 0
  AddsOwn s value = GoesOnBy g.number (number_of s) (seen s) (g.entries value)

  -- each seat is one of this turn, and each number of the turn is that of one of them; own
  pub record IsAllOf (t : Turn T E) (seats : List (TurnSeat T E g)) : Type 0 where
    pub of_turn : All (λ s. IsSeatOf s t) seats
    pub each_number : (k : ℕ) → k < seat_count t → Contains (map number_of seats) k

  -- a new seat: what it has seen is the value's whole history, and its own entries are those of its number; own
  pub record IsDealt (t : Turn T E) (value : T) (s : TurnSeat T E g) : Type 0 where
    pub of_turn : IsSeatOf s t
    pub idle : IsIdle s
    pub own : mine s ≡ entries_of g.number (number_of s) (g.entries value)
    pub all_seen : seen s ≡ g.entries value
    pub no_looks : looks s ≡ 0
    pub no_takes : (last_take s ≡ 0) × (met_take s ≡ 0)

  -- what the seat knew of its tries is as before; own
  abbrev pub SameLooks : TurnSeat T E g → TurnSeat T E g → Type 0
  SameLooks old new = (looks new ≡ looks old) × (found new ≡ found old) × (met_take new ≡ met_take old)

  -- the seats stand in the order of their numbers, from this one on; own
  abbrev pub IsInOrderFrom : ℕ → List (TurnSeat T E g) → Type 0
  IsInOrderFrom first seats = (k : ℕ) (d : TurnSeat T E g) → k < length seats → number_of (slice_index_or seats k d) ≡ first + k

  -- the seat's list is the value's entries of its number, and what it has seen begins them; own
  pub record IsIn (value : T) (s : TurnSeat T E g) : Type 0 where
    pub own : entries_of g.number (number_of s) (g.entries value) ≡ mine s
    pub begins : IsPrefix (seen s) (g.entries value)

  -- each entry of the history is of the number of one of these seats; own
  abbrev pub IsOfSeats : List (TurnSeat T E g) → List E → Type 0
  IsOfSeats seats history = All (λ e. Contains (map number_of seats) (g.number e)) history

  -- the seat has the value, in which all stands that it knew, has seen the whole of it, and its take is newer than those that it knew; own
  pub record Receives (old new : TurnSeat T E g) (value : T) : Type 0 where
    pub same : IsSameSeat old new
    pub holds : IsHolding new
    pub knew : IsIn value old
    pub mine_stays : mine new ≡ mine old
    pub all_seen : seen new ≡ g.entries value
    pub newer : (last_take old < last_take new) × (met_take old < last_take new)

  -- the seat gave the value back, and its lists have grown by the entries added; own
  pub record Returns (old new : TurnSeat T E g) (value : T) : Type 0 where
    pub same : IsSameSeat old new
    pub idle : IsIdle new
    pub all_seen : seen new ≡ g.entries value
    pub own : mine new ≡ entries_of g.number (number_of old) (g.entries value)
    pub own_added : (added : List E) → g.entries value ≡ seen old ++ added → mine new ≡ mine old ++ added
    pub looks_stay : SameLooks old new
    pub take_stays : last_take new ≡ last_take old
