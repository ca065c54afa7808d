-- Traces beside what a run counts and cuts, line by line.
use Rattle.std.proofs.Common.{◌≡◌, ℕ, ◌+◌, cond, List, [], ◌∷◌, ◌++◌, length, map, refl, sym, ap, ◌∙◌, append_assoc}
use Rattle.std.specs.List.{count_by, flat_map}
use Rattle.std.proofs.lemmas.List.{length-map}
use Rattle.std.proofs.lemmas.List.Concat.{flat_map-cons}
use Rattle.std.proofs.lemmas.List.Sums.{sum_by-cons}
use Rattle.gl_words.specs.declared.call.Call.{Call}
use Rattle.gl_memory.specs.ClientMemory.{memory_of}
use Rattle.batch_pack.specs.Spelling.{Spelled}
use Rattle.batch_pack.proofs.Packings.{slots_used-nil}
use Rattle.client_shadow.specs.Class.{captured_for, issued_at}
use Rattle.client_shadow.specs.Cutting.{Issued, Tally, batches_from, count_of, ended_at, is_class, open_after, tally_of}
use Rattle.client_shadow.specs.declared.class.Class.{Class}
use Rattle.client_shadow.specs.declared.class.Class.TheVariants.{Answer, Sync, Defer}
use Rattle.script_reader.specs.declared.script.Act.{Act}
use Rattle.script_reader.specs.declared.script.Act.TheVariants.{Mem, Image, Gl}
use Rattle.script_reader.specs.declared.script.Line.{Line}
use Rattle.replay_lines.specs.Lines.{lines_in}
use Rattle.replay_lines.specs.Moments.{issued_in}
use Rattle.replay_core.specs.Calls.{calls_of, moments_here, moments_past}
use Rattle.replay_core.specs.Direct.{Reached, carried_out, past_line, start_of}
use Rattle.replay_core.specs.Journals.{batches_of}
use Rattle.replay_core.specs.Script.{Scripted}
use Rattle.script_trace.specs.Cause.{class_in_fate}
use Rattle.script_trace.specs.Entries.{Seen, batch_from, batch_here, batch_past, class_here, entries_by, entries_from, entry_here, slots_here, trace_of}
use Rattle.script_trace.specs.Law.{CountsAsRun, TraceLaw, lengths_of, measured}
use Rattle.script_trace.specs.OpenBatch.{end_of_batch, first_batch}
use Rattle.script_trace.specs.Tallies.{count_in, ends_at, ends_in, listed, tally_in}
use Rattle.script_trace.specs.declared.fate.BatchEnd.{BatchEnd}
use Rattle.script_trace.specs.declared.fate.Why.TheVariants.{NoMore}
use Rattle.script_trace.specs.declared.open_batch.OpenBatch.{OpenBatch}
use Rattle.script_trace.proofs.Causes.{class_in_fate-of}
use Rattle.script_trace.proofs.Ends.{Counts, Counts-call, SameEnds, SameEnds-append, SameEnds-call, SameEnds-end}

module _ (size : ℕ) (here : Reached) (batch : OpenBatch) (number context : ℕ) (call : Call) where
  -- the class of an entry is that of its call
  class_in-entry_here : class_in_fate (entry_here size here batch number context call).fate ≡ class_here size here call
  unfolding entry_here
  class_in-entry_here = class_in_fate-of here.own.state.tracked call (memory_of here.memory) size (batch_here size here batch call).number (batch_here size here batch call).slots

  -- so it is counted as that call is
  counts_once : (class : Class) (entries : List Seen) (calls : List Issued) → count_in class entries ≡ count_of class calls
      → count_in class (entry_here size here batch number context call ∷ entries) ≡ count_of class (issued_at here.own.state.tracked call (memory_of here.memory) size ∷ calls)
  unfolding count_in count_of issued_at
  counts_once class entries calls same =
      let entry = entry_here size here batch number context call in
      let issued = issued_at here.own.state.tracked call (memory_of here.memory) size in
      sum_by-cons (λ (e : Seen). cond (is_class class (class_in_fate e.fate)) 1 0) entry entries
      ∙ ap (λ (k : Class). cond (is_class class k) 1 0 + count_by (λ (e : Seen). is_class class (class_in_fate e.fate)) entries) class_in-entry_here
      ∙ ap (λ (n : ℕ). cond (is_class class (class_here size here call)) 1 0 + n) same
      ∙ sym (sum_by-cons (λ (c : Issued). cond (is_class class c.class) 1 0) issued calls)

  -- what ends at an entry is what ends at its call
  ends_once : (calls : List Spelled) → Counts batch calls → SameEnds (ends_at (entry_here size here batch number context call)) (ended_at size calls (issued_at here.own.state.tracked call (memory_of here.memory) size))
  unfolding entry_here ended_at issued_at captured_for
  ends_once calls counts = SameEnds-call size batch calls (captured_for here.own.state.tracked call (memory_of here.memory)) (slots_here here call) refl counts call refl (class_here size here call)

  opens_next : (calls : List Spelled) → Counts batch calls → Counts (batch_past size here batch (Gl call)) (open_after size calls (issued_at here.own.state.tracked call (memory_of here.memory) size))
  unfolding open_after issued_at captured_for
  opens_next calls counts = Counts-call size batch calls (captured_for here.own.state.tracked call (memory_of here.memory)) (slots_here here call) refl counts call refl (class_here size here call)

module _ (size : ℕ) where
  -- the calls of lines as they are issued
  abbrev issued_past : Reached → List Line → List Issued
  issued_past here lines = map (issued_in size) (moments_past here lines)

  counts_act : (class : Class) (here : Reached) (batch : OpenBatch) (number context : ℕ) (act : Act) (lines : List Line)
      → count_in class (entries_from size (carried_out here number context act) (batch_past size here batch act) lines) ≡ count_of class (issued_past (carried_out here number context act) lines)
      → count_in class (entries_by size here batch number context act ++ entries_from size (carried_out here number context act) (batch_past size here batch act) lines)
      ≡ count_of class (map (issued_in size) (moments_here here act ++ moments_past (carried_out here number context act) lines))
  counts_act class here batch number context (Mem at bytes) lines rest = rest
  counts_act class here batch number context (Image name width height at) lines rest = rest
  counts_act class here batch number context (Gl call) lines rest =
      counts_once size here batch number context call class
      (entries_from size (carried_out here number context (Gl call)) (batch_past size here batch (Gl call)) lines) (issued_past (carried_out here number context (Gl call)) lines) rest

  -- entries of a class are as many as calls of it
  counts_from : (class : Class) (here : Reached) (batch : OpenBatch) (lines : List Line) → count_in class (entries_from size here batch lines) ≡ count_of class (issued_past here lines)
  unfolding entries_from moments_past count_in count_of
  counts_from class here batch [] = refl
  counts_from class here batch (line ∷ lines) =
      counts_act class here batch line.number line.context line.act lines (counts_from class (past_line here line) (batch_past size here batch line.act) lines)

  -- what is still to end behind some entries
  abbrev ends_past : Reached → OpenBatch → List Line → List BatchEnd
  ends_past here batch lines = flat_map ends_at (entries_from size here batch lines) ++ listed (end_of_batch (batch_from size here batch lines) NoMore)

  ends_act : (here : Reached) (batch : OpenBatch) (number context : ℕ) (calls : List Spelled) (act : Act) (lines : List Line) → Counts batch calls
      → ((calls2 : List Spelled) → Counts (batch_past size here batch act) calls2 → SameEnds (ends_past (carried_out here number context act) (batch_past size here batch act) lines) (batches_from size calls2 (issued_past (carried_out here number context act) lines)))
      → SameEnds (flat_map ends_at (entries_by size here batch number context act ++ entries_from size (carried_out here number context act) (batch_past size here batch act) lines) ++ listed (end_of_batch (batch_from size (carried_out here number context act) (batch_past size here batch act) lines) NoMore))
      (batches_from size calls (map (issued_in size) (moments_here here act ++ moments_past (carried_out here number context act) lines)))
  unfolding batches_from
  ends_act here batch number context calls (Mem at bytes) lines counts rest = rest calls counts
  ends_act here batch number context calls (Image name width height at) lines counts rest = rest calls counts
  ends_act here batch number context calls (Gl call) lines counts rest =
      let entry = entry_here size here batch number context call in
      let there = carried_out here number context (Gl call) in
      let behind = batch_past size here batch (Gl call) in
      let issued = issued_at here.own.state.tracked call (memory_of here.memory) size in
      let calls2 = open_after size calls issued in
      let last = listed (end_of_batch (batch_from size there behind lines) NoMore) in
      ap (λ (l : List BatchEnd). map lengths_of (l ++ last)) (flat_map-cons ends_at entry (entries_from size there behind lines))
      ∙ ap (λ (l : List BatchEnd). map lengths_of l) (append_assoc (ends_at entry) (flat_map ends_at (entries_from size there behind lines)) last)
      ∙ SameEnds-append (ends_at entry) (ends_past there behind lines) (ended_at size calls issued) (batches_from size calls2 (issued_past there lines))
      (ends_once size here batch number context call calls counts) (rest calls2 (opens_next size here batch number context call calls counts))

  -- batches end as they are cut
  ends_from : (here : Reached) (batch : OpenBatch) (calls : List Spelled) (lines : List Line) → Counts batch calls → SameEnds (ends_past here batch lines) (batches_from size calls (issued_past here lines))
  unfolding entries_from batch_from moments_past batches_from
  ends_from here batch calls [] counts = SameEnds-end batch calls NoMore counts
  ends_from here batch calls (line ∷ lines) counts =
      ends_act here batch line.number line.context calls line.act lines counts
      (λ calls2 counts2. ends_from (past_line here line) (batch_past size here batch line.act) calls2 lines counts2)

Counts-first : Counts first_batch []
Counts-first = record { calls = refl; slots = sym slots_used-nil }

module _ (size context : ℕ) (script : Scripted) where
  abbrev start : Reached
  start = start_of context script

  abbrev lines_here : List Line
  lines_here = lines_in context script.lines

  ended : SameEnds (ends_in (trace_of size context script)) (batches_of size context script)
  unfolding trace_of ends_in calls_of
  ended = ends_from size start first_batch [] lines_here Counts-first

  as_many : length (ends_in (trace_of size context script)) ≡ length (batches_of size context script)
  as_many =
      sym (length-map (ends_in (trace_of size context script)) lengths_of)
      ∙ ap (λ (l : List (ℕ × ℕ)). length l) ended
      ∙ length-map (batches_of size context script) measured

  counts_of : (class : Class) → count_in class (trace_of size context script).entries ≡ count_of class (calls_of size context script)
  unfolding trace_of calls_of
  counts_of class = counts_from size class start first_batch lines_here

  counted : tally_in (trace_of size context script) ≡ tally_of size (calls_of size context script)
  unfolding tally_in tally_of
  counted =
      let tally : ℕ → ℕ → ℕ → ℕ → Tally = λ deferred synchronised answered batches. record { deferred = deferred; synchronised = synchronised; answered = answered; batches = batches } in
      let trace = trace_of size context script in
      let calls = calls_of size context script in
      ap (λ (n : ℕ). tally n (count_in Sync trace.entries) (count_in Answer trace.entries) (length (ends_in trace))) (counts_of Defer)
      ∙ ap (λ (n : ℕ). tally (count_of Defer calls) n (count_in Answer trace.entries) (length (ends_in trace))) (counts_of Sync)
      ∙ ap (λ (n : ℕ). tally (count_of Defer calls) (count_of Sync calls) n (length (ends_in trace))) (counts_of Answer)
      ∙ ap (λ (n : ℕ). tally (count_of Defer calls) (count_of Sync calls) (count_of Answer calls) n) as_many

  pub counts_as_run : CountsAsRun size context script
  counts_as_run = record { counted = counted; ended = ended }

-- so it is of each script
pub trace_law_holds : TraceLaw
trace_law_holds size context script = counts_as_run size context script
