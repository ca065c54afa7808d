-- That a trace counts what a run counts, and cuts what a run cuts, whatever the script; own.
use Rattle.std.specs.Prelude.{◌≡◌, ℕ, List, length, map, is_some}
use Rattle.gl_words.specs.declared.call.Call.{Call}
use Rattle.gl_memory.specs.Segment.{Segment}
use Rattle.gl_tracked.specs.declared.tracked.Tracked.{Tracked}
use Rattle.batch_pack.specs.Spelling.{Spelled}
use Rattle.batch_pack.specs.Batch.{slots_used}
use Rattle.client_shadow.specs.Class.{class_of}
use Rattle.client_shadow.specs.Cutting.{is_class, tally_of}
use Rattle.client_shadow.specs.declared.class.Class.TheVariants.{Sync}
use Rattle.replay_core.specs.Calls.{calls_of}
use Rattle.replay_core.specs.Journals.{batches_of}
use Rattle.replay_core.specs.Script.{Scripted}
use Rattle.script_trace.specs.Cause.{cause_of}
use Rattle.script_trace.specs.Entries.{trace_of}
use Rattle.script_trace.specs.Tallies.{ends_in, tally_in}
use Rattle.script_trace.specs.declared.fate.BatchEnd.{BatchEnd}

-- how many calls a batch had as it ended, and how many slots; own
abbrev pub lengths_of : BatchEnd → ℕ × ℕ
lengths_of batch = (batch.calls, batch.slots)

-- how many calls there are in a batch, and how many slots they take; own
abbrev pub measured : List Spelled → ℕ × ℕ
measured batch = (length batch, slots_used batch)

-- the four numbers of a trace are those of a run's line of counts, with batches of as many slots, and its batches end as those of the run are cut; own
pub record CountsAsRun (size context : ℕ) (script : Scripted) : Type 0 where
  pub counted : tally_in (trace_of size context script) ≡ tally_of size (calls_of size context script)
  pub ended : map lengths_of (ends_in (trace_of size context script)) ≡ map measured (batches_of size context script)

-- so it is of each script; own
abbrev pub TraceLaw : Type 0
TraceLaw = (size context : ℕ) (script : Scripted) → CountsAsRun size context script

-- there is a cause exactly where the class of a call is Sync; own
abbrev pub CauseLaw : Type 0
CauseLaw = (tracked : Tracked) (call : Call) (memory : List Segment) (slots : ℕ) → is_some (cause_of tracked call memory slots) ≡ is_class Sync (class_of tracked call memory slots)
