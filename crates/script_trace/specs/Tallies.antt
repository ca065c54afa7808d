-- How entries are counted; own. How a run counts its calls stands in `Cutting.antt` of `client_shadow`.
use Rattle.std.specs.Prelude.{ℕ, ◌+◌, ◌^◌, ◌<◌, List, [], ◌∷◌, ◌++◌, length, count_by, if◌then◌else◌, Option, Some, None}
use Rattle.std.specs.List.{flat_map}
use Rattle.client_shadow.specs.declared.class.Class.{Class}
use Rattle.client_shadow.specs.declared.class.Class.TheVariants.{Answer, Sync, Defer}
use Rattle.client_shadow.specs.Cutting.{Tally, is_class}
use Rattle.script_trace.specs.Cause.{class_in_fate}
use Rattle.script_trace.specs.Entries.{Seen, TraceView}
use Rattle.script_trace.specs.declared.fate.BatchEnd.{BatchEnd}
use Rattle.script_trace.specs.declared.sums.Sums.{Sums}

-- what is there, as a list; own
abbrev pub listed : {A : Type 0} → Option A → List A
listed None = []
listed (Some value) = value ∷ []

-- how many entries are of a class; own
unfoldable pub count_in : Class → List Seen → ℕ
count_in class entries = count_by (λ entry. is_class class (class_in_fate entry.fate)) entries

-- the batches that end at an entry: before it, and with it; own
abbrev pub ends_at : Seen → List BatchEnd
ends_at entry = listed entry.ended ++ listed entry.sent

-- the batches of a trace as they end, in order; own
unfoldable pub ends_in : TraceView → List BatchEnd
ends_in trace = flat_map ends_at trace.entries ++ listed trace.last

-- the four numbers of a trace; own
unfoldable pub tally_in : TraceView → Tally
tally_in trace = record {
  deferred = count_in Defer trace.entries;
  synchronised = count_in Sync trace.entries;
  answered = count_in Answer trace.entries;
  batches = length (ends_in trace);
}

-- the four numbers of sums; own
abbrev pub tally_by : Sums → Tally
tally_by sums = record { deferred = sums.deferred; synchronised = sums.synchronised; answered = sums.answered; batches = sums.batches }

-- those of no calls; own
abbrev pub no_tally : Tally
no_tally = record { deferred = 0; synchronised = 0; answered = 0; batches = 0 }

-- 1 where a class is this one, else 0; own
abbrev pub one_if : Class → Class → ℕ
one_if class other = if is_class class other then 1 else 0

-- four numbers with a call of a class more; own
abbrev pub with_class_in : Tally → Class → Tally
with_class_in tally class = record tally {
  deferred = tally.deferred + one_if Defer class;
  synchronised = tally.synchronised + one_if Sync class;
  answered = tally.answered + one_if Answer class;
}

-- four numbers with an entry more; own
abbrev pub with_entry : Tally → Seen → Tally
with_entry tally entry = record {
  deferred = tally.deferred + one_if Defer (class_in_fate entry.fate);
  synchronised = tally.synchronised + one_if Sync (class_in_fate entry.fate);
  answered = tally.answered + one_if Answer (class_in_fate entry.fate);
  batches = tally.batches + length (ends_at entry);
}

-- four numbers with the end of a batch more, if there is one; own
abbrev pub with_end : Tally → Option BatchEnd → Tally
with_end tally last = record tally { batches = tally.batches + length (listed last) }

-- each number is low enough for another entry; own
pub record HasRoom (tally : Tally) : Type 0 where
  pub deferred : tally.deferred < 2 ^ 61
  pub synchronised : tally.synchronised < 2 ^ 61
  pub answered : tally.answered < 2 ^ 61
  pub batches : tally.batches < 2 ^ 61
