-- What the seats of a turn know: their parts, and how a step changes a view.
use Rattle.std.specs.Prelude.{◌≡◌, ℕ, zero, suc, ◌+◌, ◌-◌, ◌==◌, Bool, true, false, if◌then◌else◌, nat_lt, List, [], ◌∷◌, ◌++◌, sum_by, count_by, Option, None}
use mathlib.Core.List.{IsPrefix}
use Rattle.share_turn.specs.declared.view.Part.{Part}
use Rattle.share_turn.specs.declared.view.View.{View}
use Rattle.share_turn.specs.Annals.{entries_of}

-- the later of two takes; own
abbrev pub later_of : ℕ → ℕ → ℕ
later_of a b = (if nat_lt a b then b else a)

module _ {E : Type 0} where
  -- the parts that a seat keeps: its own, and those that it has beside it. A spent seat keeps none; own
  abbrev pub parts_of : View E → List (Part E)
  parts_of v = (if v.active then v.own ∷ v.kept else [])

  -- whether the part is that of the number k; own
  abbrev pub bears : ℕ → Part E → Bool
  bears k p = p.number == k

  -- how often a seat keeps the number k; own
  abbrev pub kept_by : ℕ → View E → ℕ
  kept_by k v = count_by (bears k) (parts_of v)

  -- how often all seats together keep it; own
  abbrev pub keepers : ℕ → List (View E) → ℕ
  keepers k views = sum_by (kept_by k) views

  -- the seat has the value by this take, and has seen its history; own
  abbrev pub took : View E → List E → ℕ → View E
  took v history take = record v { holding = true; own = record v.own { seen = history }; last_take = take }

  -- the seat looked once more, and met this word and another's take; own
  abbrev pub looked : View E → ℕ → ℕ → View E
  looked v word take = record v { looks = v.looks + 1; found = word; met_take = take }

  -- all parts but the first; own
  abbrev pub rest_of : List (Part E) → List (Part E)
  rest_of [] = []
  rest_of (p ∷ ps) = ps

  -- the first part, or this one where there is none; own
  abbrev pub first_of : Part E → List (Part E) → Part E
  first_of d [] = d
  first_of d (p ∷ ps) = p

  -- the next part leaves the seat; own
  abbrev pub dealer : View E → View E
  dealer v = record v { kept = rest_of v.kept }

  -- the part that left is a new seat's own; own
  abbrev pub dealt : View E → View E
  dealt v = record { active = true; holding = false; own = first_of v.own v.kept; kept = []; seats = v.seats; looks = 0; found = 0; last_take = 0; met_take = 0 }

  -- a seat keeps another's parts among its own, and the later of their last takes; own
  abbrev pub joined : View E → View E → View E
  joined v w = record v { kept = w.own ∷ (w.kept ++ v.kept); last_take = later_of v.last_take w.last_take }

  -- what the other is left with; own
  abbrev pub spent : View E
  spent = record { active = false; holding = false; own = record { number = 0; mine = []; seen = [] }; kept = []; seats = 0; looks = 0; found = 0; last_take = 0; met_take = 0 }

-- what a seat has in hand between two calls: the empty slot while it holds the value; own
abbrev pub hand_of : {T : Type 0} → Bool → List (ℕ × Option T)
hand_of true = (0, None) ∷ []
hand_of false = []

module _ {E : Type 0} (number : E → ℕ) where
  -- the part's list is the history's entries of its number, and what it has seen begins the history; own
  pub record Fits (history : List E) (part : Part E) : Type 0 where
    pub own_entries : part.mine ≡ entries_of number part.number history
    pub begins : IsPrefix part.seen history

  -- the seat gave the value back, and its history with it; own
  abbrev pub gave : View E → List E → View E
  gave v history = record v { holding = false; own = record { number = v.own.number; mine = entries_of number v.own.number history; seen = history } }

  -- the part of the number k of a seat that has seen the history; own
  abbrev pub part_of : List E → ℕ → Part E
  part_of history k = record { number = k; mine = entries_of number k history; seen = history }

  -- the parts of n numbers from k on; own
  abbrev pub parts_from : List E → ℕ → ℕ → List (Part E)
  parts_from history k zero = []
  parts_from history k (suc n) = part_of history k ∷ parts_from history (suc k) n

  -- the first seat, which keeps every number until it is dealt; own
  abbrev pub first_view : ℕ → List E → View E
  first_view seats history = record { active = true; holding = false; own = part_of history 0; kept = parts_from history 1 (seats - 1); seats = seats; looks = 0; found = 0; last_take = 0; met_take = 0 }
