-- What each kind of step tells the seat that makes it.
use Rattle.std.specs.Prelude.{◌≡◌, ◌≢◌, ℕ, ◌<◌, ◌≤◌, true, false, List, [], ◌∷◌, ◌++◌, All, Option, Some, None}
use Rattle.atomic_table.specs.Table.{Me, Step}
use Rattle.share_turn.specs.declared.view.View.{View}
use Rattle.share_turn.specs.Annals.{entries_of, IsNumberedBelow, GoesOnBy}
use Rattle.share_turn.specs.View.{parts_of, took, looked, gave, Fits}

-- the seat's own list has grown by what follows the history that it had seen; own
abbrev pub GrowsBy : {E : Type 0} → View E → View E → List E → Type 0
GrowsBy before after history = (added : List _) → history ≡ before.own.seen ++ added → after.own.mine ≡ before.own.mine ++ added

module _ {T E : Type 0} where
  -- an active seat with neither the value nor the slot; own
  abbrev pub IsFree : Me (Option T) (View E) → Type 0
  IsFree me = (me.0.active ≡ true) × (me.0.holding ≡ false) × (me.1 ≡ [])

  -- an active seat that holds the value, with the empty slot in hand; own
  abbrev pub HasEmptySlot : Me (Option T) (View E) → Type 0
  HasEmptySlot me = (me.0.active ≡ true) × (me.0.holding ≡ true) × (me.1 ≡ (0, None) ∷ [])

  -- the slot in hand has this value; own
  abbrev pub HasInSlot : Me (Option T) (View E) → T → Type 0
  HasInSlot me value = me.1 ≡ (0, Some value) ∷ []

  -- the seat only looked, and met the word 1 while another's take was under way, which is newer than its own last and no older than the one that it met before. It isn't the turn's only seat; own
  abbrev pub MeetsTake : Me (Option T) (View E) → Me (Option T) (View E) → Type 0
  MeetsTake before after = (take : ℕ) × (before.0.last_take < take) × (before.0.met_take ≤ take) × (1 < before.0.seats) × (after ≡ (looked before.0 1 take, before.1))

  -- the seat has the value with this history, by a take newer than those that it knew, and the empty slot in hand; own
  abbrev pub HasTaken : Me (Option T) (View E) → List E → Me (Option T) (View E) → Type 0
  HasTaken before history after = (take : ℕ) × (before.0.last_take < take) × (before.0.met_take < take) × (after ≡ (took before.0 history take, (0, None) ∷ []))

module _ {T E : Type 0} (entries : T → List E) (number : E → ℕ) where
  -- the seat has the value, whose entries are the history, by a take newer than those that it knew: every part of the seat fits it, and its numbers are below the number of seats; own
  pub record Takes (before after : Me (Option T) (View E)) : Type 0 where
    pub value : T
    pub hand : after.1 ≡ (0, Some value) ∷ before.1
    pub take : ℕ
    pub view : after.0 ≡ took before.0 (entries value) take
    pub newer : (before.0.last_take < take) × (before.0.met_take < take)
    pub fitting : All (Fits number (entries value)) (parts_of before.0)
    pub numbered : IsNumberedBelow number before.0.seats (entries value)

  -- at word 0 the value is taken, and any other word is 1 and only looked at; own
  abbrev pub tries : Step (Option T) → Me (Option T) (View E) → ℕ → Me (Option T) (View E) → Type 0
  tries step before word after = (word ≡ 0 → Takes before after) × (word ≢ 0 → (word ≡ 1) × MeetsTake before after)

  -- the seat has the value in hand, whose entries are those that it has seen and entries of its own number; own
  abbrev pub IsLaid : Me (Option T) (View E) → Type 0
  IsLaid me = (value : T) × HasInSlot me value × GoesOnBy number me.0.own.number me.0.own.seen (entries value)

  -- the value in hand is at home again, and the seat's own list was that of the history that it had seen; own
  abbrev pub gives_back : Step (Option T) → Me (Option T) (View E) → ℕ → Me (Option T) (View E) → Type 0
  gives_back step before word after = (value : T) → before.1 ≡ (0, Some value) ∷ []
      → (after ≡ (gave number before.0 (entries value), [])) × (before.0.own.mine ≡ entries_of number before.0.own.number before.0.own.seen)
