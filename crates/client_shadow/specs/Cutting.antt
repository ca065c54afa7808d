-- How the calls of a context are cut into batches, and how they are counted; own. Needed for the lines of counts and the journal.
use Rattle.std.specs.Prelude.{ℕ, ◌+◌, Bool, true, false, if◌then◌else◌, nat_le, List, [], ◌∷◌, ◌++◌, length, count_by}
use Rattle.client_shadow.specs.declared.class.Class.{Class}
use Rattle.client_shadow.specs.declared.class.Class.TheVariants.{Answer, Sync, Defer}
use Rattle.batch_pack.specs.Spelling.{Spelled, slots_of}
use Rattle.batch_pack.specs.Batch.{slots_used}
use Rattle.client_shadow.specs.Flush.{is_flush}

-- a call as it is issued: its class, and itself with what is captured for it; own
pub record Issued : Type 0 where
  pub class : Class
  pub spelled : Spelled

-- a batch of these calls, where there are any; own
abbrev pub batch_unless_empty : List Spelled → List (List Spelled)
batch_unless_empty [] = []
batch_unless_empty (call ∷ calls) = (call ∷ calls) ∷ []

-- whether a call fits behind the calls of an open batch; own
unfoldable pub fits_behind : ℕ → List Spelled → Spelled → Bool
fits_behind size batch call = nat_le (slots_used batch + slots_of call) size

-- the calls of the open batch that a deferred call joins: none where it doesn't fit behind them; own
unfoldable pub joined : ℕ → List Spelled → Spelled → List Spelled
joined size batch call = if fits_behind size batch call then batch else []

-- the batches that end before a deferred call: the open one where the call doesn't fit behind it; own
unfoldable pub cut_before : ℕ → List Spelled → Spelled → List (List Spelled)
cut_before size batch call = if fits_behind size batch call then [] else batch_unless_empty batch

-- the batches that end at a call of this class: before a Sync call the open one, after a Flush that with the Flush; own
abbrev pub ended_by : Class → ℕ → List Spelled → Spelled → List (List Spelled)
ended_by Answer size batch call = []
ended_by Sync size batch call = batch_unless_empty batch
ended_by Defer size batch call = cut_before size batch call ++ (if is_flush call.call then (joined size batch call ++ call ∷ []) ∷ [] else [])

-- the open batch after a call of this class; own
abbrev pub open_by : Class → ℕ → List Spelled → Spelled → List Spelled
open_by Answer size batch call = batch
open_by Sync size batch call = []
open_by Defer size batch call = if is_flush call.call then [] else joined size batch call ++ call ∷ []

-- the batches that end at a call; own
unfoldable pub ended_at : ℕ → List Spelled → Issued → List (List Spelled)
ended_at size batch call = ended_by call.class size batch call.spelled

-- the open batch after a call; own
unfoldable pub open_after : ℕ → List Spelled → Issued → List Spelled
open_after size batch call = open_by call.class size batch call.spelled

-- the batches of calls behind an open batch: those that end at each, and the open one at the end; own
unfoldable pub batches_from : ℕ → List Spelled → List Issued → List (List Spelled)
batches_from size batch [] = batch_unless_empty batch
batches_from size batch (call ∷ calls) = ended_at size batch call ++ batches_from size (open_after size batch call) calls

-- whether a call is of a class; own
abbrev pub is_class : Class → Class → Bool
is_class Answer Answer = true
is_class Sync Sync = true
is_class Defer Defer = true
is_class one other = false

-- how many of the calls are of a class; own
unfoldable pub count_of : Class → List Issued → ℕ
count_of class calls = count_by (λ call. is_class class call.class) calls

-- the four numbers of a line of counts; own
pub record Tally : Type 0 where
  pub deferred : ℕ
  pub synchronised : ℕ
  pub answered : ℕ
  pub batches : ℕ

-- the numbers for the calls of a context, with batches of so many slots; own
unfoldable pub tally_of : ℕ → List Issued → Tally
tally_of size calls = record {
  deferred = count_of Defer calls;
  synchronised = count_of Sync calls;
  answered = count_of Answer calls;
  batches = length (batches_from size [] calls);
}
