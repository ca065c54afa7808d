-- What is told of the batches that were submitted to a rail; own. How they are kept in memory stands in Kept.antt.
use Rattle.std.specs.Prelude.{◌≡◌, ◌≢◌, ℕ, Bool, nat_le, List, [], ◌∷◌, ◌++◌, sum_by, if◌then◌else◌, slice_index_or, Option, Some, None}
use Rattle.batch_pack.specs.Spelling.{Spelled, spellings_of, HaveSpellings}
use Rattle.batch_pack.specs.Batch.{slots_used}
use Rattle.batch_rail.specs.declared.maker.RailKind.{RailKind}

-- how many slots batches have together; own
unfoldable pub slots_in : List (List Spelled) → ℕ
slots_in batches = sum_by slots_used batches

-- batches are told while they have at most so many slots; own
unfoldable pub told_within : ℕ → List (List Spelled) → Option (List (List Spelled))
told_within room batches = if nat_le (slots_in batches) room then Some batches else None

-- what is told once a batch was submitted: it behind the others, within the room; nothing where nothing was told; own
abbrev pub told_with : ℕ → Option (List (List Spelled)) → List Spelled → Option (List (List Spelled))
told_with room None batch = None
told_with room (Some batches) batch = told_within room (batches ++ batch ∷ [])

-- the batches of a context, where they are told; for how many slots there is room; how many of the last batches have none; own
pub record JournalView : Type 0 where
  pub told : Option (List (List Spelled))
  pub room : ℕ
  pub empty : ℕ

-- a journal of no batches, with room for so many slots; own
abbrev pub new_journal : ℕ → JournalView
new_journal room = record { told = Some []; room = room; empty = 0 }

-- what a journal tells that may be elsewhere; own
abbrev pub told_by : Option JournalView → Option (List (List Spelled))
told_by None = None
told_by (Some journal) = journal.told

-- for how many slots it has room; own
abbrev pub room_by : Option JournalView → ℕ
room_by None = 0
room_by (Some journal) = journal.room

-- how many of its last batches have no slots; own
abbrev pub empty_by : Option JournalView → ℕ
empty_by None = 0
empty_by (Some journal) = journal.empty

-- the journal of a context; own
abbrev pub journal_at : List (Option JournalView) → ℕ → Option JournalView
journal_at journals context = slice_index_or journals context None

-- the journals of the other contexts are as they were; own
abbrev pub SameOthers : List (Option JournalView) → List (Option JournalView) → ℕ → Type 0
SameOthers old new context = (other : ℕ) → other ≢ context → journal_at new other ≡ journal_at old other

-- a rail that keeps what was submitted: its driver and the journal of its context, each where it is there; whether a batch failed; the size of its batches, and how many were sent; own
pub record RailView (D : Type 0) : Type 0 where
  pub driver : Option D
  pub failed : Bool
  pub slots : ℕ
  pub sent : ℕ
  pub journal : Option JournalView

-- a maker of such rails: the kind that it gives, and the journals of the contexts, where no rail has them; own
pub record MakerView : Type 0 where
  pub kind : RailKind
  pub journals : List (Option JournalView)

-- slots spell the calls of the first of some batches, and the others are left; own
pub record TakesFirst (old new : List (List Spelled)) (slots : List ℕ) : Type 0 where
  pub calls : List Spelled
  pub have : HaveSpellings calls
  pub spelled : slots ≡ spellings_of calls
  pub first : old ≡ calls ∷ new
