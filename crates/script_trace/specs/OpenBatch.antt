-- The open batch by its numbers, and the batches that end; own. Their calls stand in `Cutting.antt` of `client_shadow`: here are how many they are, and their slots.
use Rattle.std.specs.Prelude.{ℕ, ◌+◌, ◌==◌, Bool, nat_le, if◌then◌else◌, Option, Some, None}
use Rattle.gl_words.specs.declared.call.Call.{Call}
use Rattle.client_shadow.specs.declared.class.Class.{Class}
use Rattle.client_shadow.specs.declared.class.Class.TheVariants.{Answer, Sync, Defer}
use Rattle.client_shadow.specs.Flush.{is_flush}
use Rattle.script_trace.specs.declared.fate.BatchEnd.{BatchEnd}
use Rattle.script_trace.specs.declared.fate.Why.{Why}
use Rattle.script_trace.specs.declared.fate.Why.TheVariants.{Full, Sent, Waits}
use Rattle.script_trace.specs.declared.open_batch.OpenBatch.{OpenBatch}

-- the first batch, without calls; own
abbrev pub first_batch : OpenBatch
first_batch = record { number = 1; calls = 0; slots = 0 }

-- the end of a batch for this reason, if it has calls; own
abbrev pub end_of_batch : OpenBatch → Why → Option BatchEnd
end_of_batch batch why = if batch.calls == 0 then None else Some (record { number = batch.number; calls = batch.calls; slots = batch.slots; why = why })

-- the batch that is open behind the end of this one: the next, and itself where it has no calls; own
abbrev pub behind_end : OpenBatch → OpenBatch
behind_end batch = if batch.calls == 0 then batch else record { number = batch.number + 1; calls = 0; slots = 0 }

-- whether a call of so many slots fits behind the calls of a batch; own
abbrev pub fits : ℕ → OpenBatch → ℕ → Bool
fits size batch slots = nat_le (batch.slots + slots) size

-- a batch with a call of so many slots behind its calls; own
abbrev pub with_call : OpenBatch → ℕ → OpenBatch
with_call batch slots = record batch { calls = batch.calls + 1; slots = batch.slots + slots }

-- the batch that ends before a call of this class and of so many slots, if one does; own
abbrev pub ended_before : Class → ℕ → OpenBatch → ℕ → Option BatchEnd
ended_before Answer size batch slots = None
ended_before Sync size batch slots = end_of_batch batch Waits
ended_before Defer size batch slots = if fits size batch slots then None else end_of_batch batch Full

-- the open batch with a call of this class and of so many slots, where it is put off; own
abbrev pub with_class : Class → ℕ → OpenBatch → ℕ → OpenBatch
with_class Answer size batch slots = batch
with_class Sync size batch slots = behind_end batch
with_class Defer size batch slots = with_call (if fits size batch slots then batch else behind_end batch) slots

-- the batch that ends with a call of this class, which it holds, if one does; own
abbrev pub ended_with : Class → Call → OpenBatch → Option BatchEnd
ended_with Answer call batch = None
ended_with Sync call batch = None
ended_with Defer call batch = if is_flush call then end_of_batch batch Sent else None

-- the open batch behind a call of this class; own
abbrev pub batch_behind : Class → Call → OpenBatch → OpenBatch
batch_behind Answer call batch = batch
batch_behind Sync call batch = batch
batch_behind Defer call batch = if is_flush call then behind_end batch else batch
