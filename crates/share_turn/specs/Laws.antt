-- What the rule of a turn says of its seats, in other words.
use Rattle.std.specs.Prelude.{◌≡◌, ◌≢◌, ◌↔◌, ℕ, ◌<◌, ◌≤◌, true, List, Option, slice_index, All, Contains}
use mathlib.Core.Option.{some}
use lib.ListN.{get_elem?}
use Rattle.atomic_table.specs.Table.{State}
use Rattle.share_turn.specs.declared.view.Part.{Part}
use Rattle.share_turn.specs.declared.view.View.{View}
use Rattle.share_turn.specs.declared.view.Opening.{Opening}
use Rattle.share_turn.specs.View.{parts_of}
use Rattle.share_turn.specs.Rule.{IsKept}

module _ {E : Type 0} where
  -- the seat at this place holds the value; own
  abbrev pub HoldsAt : List (View E) → ℕ → Type 0
  HoldsAt views i = (v : View E) × (get_elem? views i ≡ some v) × (v.holding ≡ true)

  -- the seat at this place keeps the number k; own
  abbrev pub KeepsAt : List (View E) → ℕ → ℕ → Type 0
  KeepsAt views i k = (v : View E) × (get_elem? views i ≡ some v) × ((p : Part E) × Contains (parts_of v) p × (p.number ≡ k))

-- `rule` is what a turn's table keeps: at every moment the state of the table meets it, for what the table was told when it was made.
module _ {T E : Type 0} (rule : Opening T → State (Option T) (View E) → Type 0) where
  -- the word is 1 exactly while a seat holds the value, and no two seats hold it; own
  abbrev pub WordTellsHolder : Type 0
  WordTellsHolder = (opened : Opening T) (s : State (Option T) (View E)) → rule opened s
      → ((slice_index s.words 0 ≡ 1) ↔ ((i : ℕ) × HoldsAt s.views i)) × ((i j : ℕ) → HoldsAt s.views i → HoldsAt s.views j → i ≡ j)

  -- no number is kept at two places; own
  abbrev pub SeatsDiffer : Type 0
  SeatsDiffer = (opened : Opening T) (s : State (Option T) (View E)) → rule opened s
      → (i j k l : ℕ) → i ≢ j → KeepsAt s.views i k → KeepsAt s.views j l → k ≢ l

  -- a take that a seat met was made by some seat, whose last take is that one or a newer; own
  abbrev pub MetTakesWereMade : Type 0
  MetTakesWereMade = (opened : Opening T) (s : State (Option T) (View E)) → rule opened s
      → (i : ℕ) (v : View E) → get_elem? s.views i ≡ some v → 0 < v.met_take → (j : ℕ) × (w : View E) × (get_elem? s.views j ≡ some w) × (v.met_take ≤ w.last_take)

module _ {T E : Type 0} (entries : T → List E) (number : E → ℕ) (rule : Opening T → State (Option T) (View E) → Type 0) where
  -- what meets the rule is what is kept, with the number of seats that the table was told; own
  abbrev pub RuleIsKept : Type 0
  RuleIsKept = (opened : Opening T) (s : State (Option T) (View E)) → rule opened s ↔ IsKept entries number opened.seats s

  -- each entry of the history is of a number that some seat keeps; own
  abbrev pub EntriesAreKept : Type 0
  EntriesAreKept = (opened : Opening T) (s : State (Option T) (View E)) → rule opened s
      → (kept : IsKept entries number opened.seats s) × All (λ e. (i : ℕ) × KeepsAt s.views i (number e)) kept.history
