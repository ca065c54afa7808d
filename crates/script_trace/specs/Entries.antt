-- The calls of a script, each as the direct machine meets it; own. What the direct machine does stands in Direct.antt of replay_core.
use Rattle.std.specs.Prelude.{◌≡◌, ℕ, ℤ, List, [], ◌∷◌, ◌++◌, drop, replicate, Option, is_some, slice_get}
use Rattle.gl_words.specs.declared.call.Call.{Call}
use Rattle.gl_memory.specs.ClientMemory.{memory_of}
use Rattle.gl_tracked.specs.Step.{number_asked}
use Rattle.batch_pack.specs.Spelling.{slots_of}
use Rattle.client_shadow.specs.Class.{captured_for, class_of}
use Rattle.client_shadow.specs.declared.class.Class.{Class}
use Rattle.gl_objects.specs.Step.{no_objects}
use Rattle.gl_objects.specs.View.{ObjectsView}
use Rattle.soft_driver.specs.Own.{Own, first_own, own_step}
use Rattle.script_reader.specs.declared.script.Act.{Act}
use Rattle.script_reader.specs.declared.script.Act.TheVariants.{Mem, Image, Gl}
use Rattle.script_reader.specs.declared.script.ContextSpec.{ContextSpec}
use Rattle.script_reader.specs.declared.script.Line.{Line}
use Rattle.replay_lines.specs.Lines.{lines_in}
use Rattle.replay_lines.specs.Results.{printed, printed_by}
use Rattle.replay_core.specs.Direct.{Reached, carried_out, past_line, start_of}
use Rattle.replay_core.specs.Script.{Scripted}
use Rattle.script_trace.specs.Cause.{cause_of, fate_by}
use Rattle.script_trace.specs.Errors.{error_of, recorded_beside}
use Rattle.script_trace.specs.OpenBatch.{end_of_batch, ended_before, ended_with, first_batch, batch_behind, with_class}
use Rattle.script_trace.specs.declared.entry.Entry.{Entry}
use Rattle.script_trace.specs.declared.entry.Recorded.{Recorded}
use Rattle.script_trace.specs.declared.fate.BatchEnd.{BatchEnd}
use Rattle.script_trace.specs.declared.fate.Cause.{Cause}
use Rattle.script_trace.specs.declared.fate.Fate.{Fate}
use Rattle.script_trace.specs.declared.fate.Why.TheVariants.{NoMore}
use Rattle.script_trace.specs.declared.open_batch.OpenBatch.{OpenBatch}

-- an entry: the number and the context of its line, its call, the numbers that are printed of its reply, its error, the batch that ended before it, what becomes of it, and the batch that ended with it; own
pub record Seen : Type 0 where
  pub line : ℕ
  pub context : ℕ
  pub call : Call
  pub reply : List ℤ
  pub error : Option Recorded
  pub ended : Option BatchEnd
  pub fate : Fate
  pub sent : Option BatchEnd

-- an entry of the code, without the room of its reply; own
abbrev pub seen : Entry → Seen
seen entry = record {
  line = entry.line;
  context = entry.context;
  call = entry.call;
  reply = printed_by entry.reply;
  error = entry.error;
  ended = entry.ended;
  fate = entry.fate;
  sent = entry.sent;
}

-- the class of a call where the direct machine meets it; own
abbrev pub class_here : ℕ → Reached → Call → Class
class_here size here call = class_of here.own.state.tracked call (memory_of here.memory) size

-- the slots of its spelling; own
abbrev pub slots_here : Reached → Call → ℕ
slots_here here call = slots_of (captured_for here.own.state.tracked call (memory_of here.memory))

-- why it waits, if it does; own
abbrev pub cause_here : ℕ → Reached → Call → Option Cause
cause_here size here call = cause_of here.own.state.tracked call (memory_of here.memory) size

-- the open batch with it, where it is put off; own
abbrev pub batch_here : ℕ → Reached → OpenBatch → Call → OpenBatch
batch_here size here batch call = with_class (class_here size here call) size batch (slots_here here call)

-- what becomes of it; own
abbrev pub fate_here : ℕ → Reached → OpenBatch → Call → Fate
fate_here size here batch call =
    fate_by (cause_here size here call) (is_some (number_asked here.own.state.tracked call)) (batch_here size here batch call).number (batch_here size here batch call).slots

-- the entry of a call on a line of this number and context, beside the open batch; own
unfoldable pub entry_here : ℕ → Reached → OpenBatch → ℕ → ℕ → Call → Seen
entry_here size here batch number context call = record {
  line = number;
  context = context;
  call = call;
  reply = printed call (own_step here.own call (memory_of here.memory) here.objects).reply;
  error = recorded_beside here.own.state.error (error_of here.own here.objects call (memory_of here.memory));
  ended = ended_before (class_here size here call) size batch (slots_here here call);
  fate = fate_here size here batch call;
  sent = ended_with (class_here size here call) call (batch_here size here batch call);
}

-- the entries of what a line of this number and context does: one where it makes a call; own
abbrev pub entries_by : ℕ → Reached → OpenBatch → ℕ → ℕ → Act → List Seen
entries_by size here batch number context (Mem at bytes) = []
entries_by size here batch number context (Image name width height at) = []
entries_by size here batch number context (Gl call) = entry_here size here batch number context call ∷ []

-- the open batch behind what a line does; own
abbrev pub batch_past : ℕ → Reached → OpenBatch → Act → OpenBatch
batch_past size here batch (Mem at bytes) = batch
batch_past size here batch (Image name width height at) = batch
batch_past size here batch (Gl call) = batch_behind (class_here size here call) call (batch_here size here batch call)

-- the entries of lines, one after another; own
unfoldable pub entries_from : ℕ → Reached → OpenBatch → List Line → List Seen
entries_from size here batch [] = []
entries_from size here batch (line ∷ lines) =
    entries_by size here batch line.number line.context line.act ++ entries_from size (past_line here line) (batch_past size here batch line.act) lines

-- the open batch behind lines; own
unfoldable pub batch_from : ℕ → Reached → OpenBatch → List Line → OpenBatch
batch_from size here batch [] = batch
batch_from size here batch (line ∷ lines) = batch_from size (past_line here line) (batch_past size here batch line.act) lines

-- a context where the direct machine has come to, of this number and with batches of so many slots, beside the open batch; own
pub record HereView : Type 0 where
  pub size : ℕ
  pub context : ℕ
  pub own : Own
  pub objects : ObjectsView
  pub memory : List ℕ
  pub batch : OpenBatch

-- the start of a context of this number, and of these sides in pixels and bytes of client memory, beside no objects; own
abbrev pub first_here : ℕ → ℕ → ContextSpec → HereView
first_here size context spec = record {
  size = size;
  context = context;
  own = first_own context spec.width spec.height;
  objects = no_objects;
  memory = replicate spec.memory 0;
  batch = first_batch;
}

-- the same for the direct machine, which has told nothing; own
abbrev pub reached : HereView → Reached
reached here = record { own = here.own; objects = here.objects; memory = here.memory; told = [] }

-- a context behind what a line of this number and context does; own
abbrev pub here_past : HereView → ℕ → ℕ → Act → HereView
here_past here number context act = record here {
  own = (carried_out (reached here) number context act).own;
  objects = (carried_out (reached here) number context act).objects;
  memory = (carried_out (reached here) number context act).memory;
  batch = batch_past here.size (reached here) here.batch act;
}

-- the entries that are still to come, and the batch that ends behind them; own
pub record TraceView : Type 0 where
  pub entries : List Seen
  pub last : Option BatchEnd

-- the trace of lines from where the direct machine has come to; own
abbrev pub trace_from : ℕ → Reached → OpenBatch → List Line → TraceView
trace_from size here batch lines = record { entries = entries_from size here batch lines; last = end_of_batch (batch_from size here batch lines) NoMore }

-- the trace of a script's context, with batches of so many slots; own
unfoldable pub trace_of : ℕ → ℕ → Scripted → TraceView
trace_of size context script = trace_from size (start_of context script) first_batch (lines_in context script.lines)

-- the first of the entries that are to come, if there is one; own
abbrev pub next_entry : TraceView → Option Seen
next_entry trace = slice_get trace.entries 0

-- the trace behind that entry; own
abbrev pub behind_next : TraceView → TraceView
behind_next trace = record trace { entries = drop 1 trace.entries }

-- entries, and then a trace; own
abbrev pub behind_entries : List Seen → TraceView → TraceView
behind_entries entries trace = record trace { entries = entries ++ trace.entries }

-- the trace of a context with these lines to come, of which it passes its own; own
abbrev pub trace_here : HereView → List Line → TraceView
trace_here here lines = trace_from here.size (reached here) here.batch (lines_in here.context lines)

-- a line with this entry, or none, leads from one context to another, whatever lines are behind it; own
abbrev pub Passes : HereView → HereView → Line → List Seen → Type 0
Passes old new line entries = (lines : List Line) → trace_here old (line ∷ lines) ≡ behind_entries entries (trace_here new lines)

-- a context and lines as a script; own
abbrev pub scripted : ContextSpec → List Line → Scripted
scripted spec lines = record { width = spec.width; height = spec.height; memory = spec.memory; lines = lines }
