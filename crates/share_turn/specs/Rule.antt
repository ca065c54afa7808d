-- The rule of a turn: what holds between any two steps, whatever the threads do.
-- Word 0 is 1 while the value is out and 0 while it is at home in slot 0.
use Rattle.std.specs.Prelude.{◌≡◌, ◌≢◌, ℕ, ◌<◌, ◌≤◌, true, false, if◌then◌else◌, nat_lt, List, [], ◌∷◌, All, Option, Some, ◌⊎◌}
use mathlib.Core.Option.{none, some}
use lib.ListN.{get_elem?}
use Rattle.atomic_table.specs.Table.{State}
use Rattle.share_turn.specs.declared.view.View.{View}
use Rattle.share_turn.specs.Annals.{IsNumberedBelow}
use Rattle.share_turn.specs.View.{parts_of, keepers, Fits}

module _ {E : Type 0} where
  -- the last take of some seat was this one; own
  abbrev pub SomeTook : List (View E) → ℕ → Type 0
  SomeTook views take = (i : ℕ) × (v : View E) × (get_elem? views i ≡ some v) × (v.last_take ≡ take)

  -- so many takes have been made: no seat made or met a later one, the newest was some seat's last, and a seat that was taken in has none; own
  pub record IsTakes (takes : ℕ) (views : List (View E)) : Type 0 where
    pub within : (i : ℕ) (v : View E) → get_elem? views i ≡ some v → (v.last_take ≤ takes) × (v.met_take ≤ takes)
    pub newest : (takes ≡ 0) ⊎ SomeTook views takes
    pub spent_has_none : (i : ℕ) (v : View E) → get_elem? views i ≡ some v → v.active ≡ false → v.last_take ≡ 0

module _ {T E : Type 0} (entries : T → List E) (number : E → ℕ) where
  -- the value is at home with the history as its entries, and no seat holds it; own
  pub record IsHome (history : List E) (s : State (Option T) (View E)) : Type 0 where
    pub word : s.words ≡ 0 ∷ []
    pub value : T
    pub slot : s.homes ≡ some (Some value) ∷ []
    pub entries_are : entries value ≡ history
    pub none_holds : (i : ℕ) (v : View E) → get_elem? s.views i ≡ some v → v.holding ≡ false

  -- the value is out with one seat, which has seen the history and made the newest take, and no other seat holds it; own
  pub record IsOut (history : List E) (takes : ℕ) (s : State (Option T) (View E)) : Type 0 where
    pub word : s.words ≡ 1 ∷ []
    pub slot : s.homes ≡ none ∷ []
    pub holder : ℕ
    pub view : View E
    pub sits : get_elem? s.views holder ≡ some view
    pub holds : view.holding ≡ true
    pub has_seen : view.own.seen ≡ history
    pub others : (i : ℕ) (v : View E) → get_elem? s.views i ≡ some v → i ≢ holder → v.holding ≡ false
    pub is_newest : view.last_take ≡ takes
    pub earlier : (i : ℕ) (v : View E) → get_elem? s.views i ≡ some v → i ≢ holder → v.last_take < takes

  -- there is one history, which every part fits, and one count of takes. Each number below `seats` is kept once, no other is, and every entry's number is below `seats`; own
  pub record IsKept (seats : ℕ) (s : State (Option T) (View E)) : Type 0 where
    pub history : List E
    pub takes : ℕ
    pub counts : IsTakes takes s.views
    pub place : IsHome history s ⊎ IsOut history takes s
    pub once : (k : ℕ) → keepers k s.views ≡ (if nat_lt k seats then 1 else 0)
    pub numbered : IsNumberedBelow number seats history
    pub fitting : (i : ℕ) (v : View E) → get_elem? s.views i ≡ some v → All (Fits number history) (parts_of v)
    pub counted : (i : ℕ) (v : View E) → get_elem? s.views i ≡ some v → v.active ≡ true → v.seats ≡ seats
