-- A trace goes on by its lines: what was told before doesn't matter, and how many entries are still to come.
use Rattle.std.proofs.Common.{◌≡◌, ℕ, ◌<◌, Bool, true, false, cond, List, [], ◌∷◌, ◌++◌, length, Option, Some, None, refl, sym, ap, ◌∙◌, arith}
use Rattle.std.specs.Prelude.{IfOk, OnOk, Result, Ok, Err, is_some, option_map}
use Rattle.std.proofs.lemmas.Bool.{eq-eqb, ne_eqb, true≢false}
use Rattle.script_reader.specs.declared.script.Act.{Act}
use Rattle.script_reader.specs.declared.script.Act.TheVariants.{Mem, Image, Gl}
use Rattle.script_reader.specs.declared.script.Line.{Line}
use Rattle.replay_lines.specs.Lines.{lines_in}
use Rattle.replay_lines.specs.Results.{DoneView}
use Rattle.replay_core.specs.Direct.{Reached, carried_out, past_line}
use Rattle.script_trace.specs.Entries.{HereView, Passes, Seen, TraceView, batch_from, batch_past, behind_entries, behind_next, entries_by, entries_from, entry_here, here_past, next_entry, reached, seen, trace_from, trace_here}
use Rattle.script_trace.specs.Tallies.{listed}
use Rattle.script_trace.specs.declared.entry.Entry.{Entry}
use Rattle.script_trace.specs.OpenBatch.{end_of_batch}
use Rattle.script_trace.specs.declared.fate.Why.TheVariants.{NoMore}
use Rattle.script_trace.specs.declared.open_batch.OpenBatch.{OpenBatch}

-- a place reached where this was told
abbrev telling : Reached → List DoneView → Reached
telling here told = record here { told = told }

module _ (size : ℕ) where
  entries_by-told : (here : Reached) (one other : List DoneView) (batch : OpenBatch) (number context : ℕ) (act : Act) → entries_by size (telling here one) batch number context act ≡ entries_by size (telling here other) batch number context act
  unfolding entry_here
  entries_by-told here one other batch number context (Mem at bytes) = refl
  entries_by-told here one other batch number context (Image name width height at) = refl
  entries_by-told here one other batch number context (Gl call) = refl

  batch_past-told : (here : Reached) (one other : List DoneView) (batch : OpenBatch) (act : Act) → batch_past size (telling here one) batch act ≡ batch_past size (telling here other) batch act
  batch_past-told here one other batch (Mem at bytes) = refl
  batch_past-told here one other batch (Image name width height at) = refl
  batch_past-told here one other batch (Gl call) = refl

  -- what a line tells
  told_more : Reached → ℕ → ℕ → Act → List DoneView → List DoneView
  told_more here number context act told = (carried_out (telling here told) number context act).told

  past-told : (here : Reached) (told : List DoneView) (number context : ℕ) (act : Act) → carried_out (telling here told) number context act ≡ telling (carried_out here number context act) (told_more here number context act told)
  unfolding told_more
  past-told here told number context (Mem at bytes) = refl
  past-told here told number context (Image name width height at) = refl
  past-told here told number context (Gl call) = refl

  -- entries are the same whatever was told
  entries_from-told : (lines : List Line) (here : Reached) (one other : List DoneView) (batch : OpenBatch) → entries_from size (telling here one) batch lines ≡ entries_from size (telling here other) batch lines
  unfolding entries_from
  entries_from-told [] here one other batch = refl
  entries_from-told (line ∷ lines) here one other batch =
      let there = carried_out here line.number line.context line.act in
      let one2 = told_more here line.number line.context line.act one in
      let other2 = told_more here line.number line.context line.act other in
      let behind_one = batch_past size (telling here one) batch line.act in
      let behind = batch_past size (telling here other) batch line.act in
      let now = entries_by size (telling here other) batch line.number line.context line.act in
      ap (λ (l : List Seen). l ++ entries_from size (past_line (telling here one) line) behind_one lines) (entries_by-told here one other batch line.number line.context line.act)
      ∙ ap (λ (b : OpenBatch). now ++ entries_from size (past_line (telling here one) line) b lines) (batch_past-told here one other batch line.act)
      ∙ ap (λ (r : Reached). now ++ entries_from size r behind lines) (past-told here one line.number line.context line.act)
      ∙ ap (λ (l : List Seen). now ++ l) (entries_from-told lines there one2 other2 behind)
      ∙ ap (λ (r : Reached). now ++ entries_from size r behind lines) (sym (past-told here other line.number line.context line.act))

  batch_from-told : (lines : List Line) (here : Reached) (one other : List DoneView) (batch : OpenBatch) → batch_from size (telling here one) batch lines ≡ batch_from size (telling here other) batch lines
  unfolding batch_from
  batch_from-told [] here one other batch = refl
  batch_from-told (line ∷ lines) here one other batch =
      let there = carried_out here line.number line.context line.act in
      let one2 = told_more here line.number line.context line.act one in
      let other2 = told_more here line.number line.context line.act other in
      let behind = batch_past size (telling here other) batch line.act in
      ap (λ (b : OpenBatch). batch_from size (past_line (telling here one) line) b lines) (batch_past-told here one other batch line.act)
      ∙ ap (λ (r : Reached). batch_from size r behind lines) (past-told here one line.number line.context line.act)
      ∙ batch_from-told lines there one2 other2 behind
      ∙ ap (λ (r : Reached). batch_from size r behind lines) (sym (past-told here other line.number line.context line.act))

-- a trace by its parts
abbrev trace_at : List Seen → OpenBatch → TraceView
trace_at entries batch = record { entries = entries; last = end_of_batch batch NoMore }

-- the trace of its own lines from a context on
abbrev trace_past : HereView → List Line → TraceView
trace_past here lines = trace_from here.size (reached here) here.batch lines

module _ (here : HereView) (line : Line) (lines : List Line) where
  abbrev there : HereView
  there = here_past here line.number line.context line.act

  abbrev now : List Seen
  now = entries_by here.size (reached here) here.batch line.number line.context line.act

  entries-cons : entries_from here.size (reached here) here.batch (line ∷ lines) ≡ now ++ entries_from there.size (reached there) there.batch lines
  unfolding entries_from
  entries-cons =
      let told = (past_line (reached here) line).told in
      ap (λ (l : List Seen). now ++ l) (entries_from-told here.size lines (past_line (reached here) line) told [] (batch_past here.size (reached here) here.batch line.act))

  batch-cons : batch_from here.size (reached here) here.batch (line ∷ lines) ≡ batch_from there.size (reached there) there.batch lines
  unfolding batch_from
  batch-cons =
      let told = (past_line (reached here) line).told in
      batch_from-told here.size lines (past_line (reached here) line) told [] (batch_past here.size (reached here) here.batch line.act)

  -- a line first: its entries, and then those behind it
  trace-cons : trace_past here (line ∷ lines) ≡ behind_entries now (trace_past there lines)
  trace-cons =
      ap (λ (l : List Seen). trace_at l (batch_from here.size (reached here) here.batch (line ∷ lines))) entries-cons
      ∙ ap (λ (b : OpenBatch). trace_at (now ++ entries_from there.size (reached there) there.batch lines) b) batch-cons

-- a context without lines to come
pub trace-nil : (here : HereView) → trace_here here [] ≡ record { entries = []; last = end_of_batch here.batch NoMore }
unfolding entries_from batch_from
trace-nil here = refl

-- the lines of a context, the first one aside
lines_in-its : (context : ℕ) (line : Line) (lines : List Line) → line.context ≡ context → lines_in context (line ∷ lines) ≡ line ∷ lines_in context lines
lines_in-its context line lines its = ap (λ (b : Bool). cond b (line ∷ lines_in context lines) (lines_in context lines)) (eq-eqb line.context context its)

lines_in-other : (context : ℕ) (line : Line) (lines : List Line) → (line.context ≡ context → ⊥) → lines_in context (line ∷ lines) ≡ lines_in context lines
lines_in-other context line lines other = ap (λ (b : Bool). cond b (line ∷ lines_in context lines) (lines_in context lines)) (ne_eqb line.context context other)

-- its own line leads a context to where the line leads
pub passes_its : (here behind : HereView) (line : Line) (entries : List Seen) → line.context ≡ here.context → entries ≡ entries_by here.size (reached here) here.batch line.number line.context line.act
    → behind ≡ here_past here line.number line.context line.act → Passes here behind line entries
passes_its here behind line entries its told past lines =
    let now = entries_by here.size (reached here) here.batch line.number line.context line.act in
    let next = here_past here line.number line.context line.act in
    ap (λ (l : List Line). trace_past here l) (lines_in-its here.context line lines its)
    ∙ trace-cons here line (lines_in here.context lines)
    ∙ ap (λ (l : List Seen). behind_entries l (trace_past next (lines_in here.context lines))) (sym told)
    ∙ ap (λ (h : HereView). behind_entries entries (trace_here h lines)) (sym past)

pub passes_result : {E : Type 0} (here behind : HereView) (line : Line) (result : Result (Option Entry) E) → line.context ≡ here.context
    → IfOk result (λ entry. listed (option_map seen entry) ≡ entries_by here.size (reached here) here.batch line.number line.context line.act)
    → OnOk result (behind ≡ here_past here line.number line.context line.act)
    → IfOk result (λ entry. Passes here behind line (listed (option_map seen entry)))
passes_result here behind line (Ok entry) its told past = passes_its here behind line (listed (option_map seen entry)) its told past
passes_result here behind line (Err refused) its told past = tt

-- and another leads nowhere
pub passes_other : (here : HereView) (line : Line) → (line.context ≡ here.context → ⊥) → Passes here here line []
passes_other here line other lines = ap (λ (l : List Line). trace_past here l) (lines_in-other here.context line lines other)

-- an entry first, and those behind it
pub next-some : (trace rest : TraceView) (entry : Seen) → trace ≡ behind_entries (entry ∷ []) rest → Some entry ≡ next_entry trace
next-some trace rest entry is = sym (ap (λ (t : TraceView). next_entry t) is)

pub behind-some : (trace rest : TraceView) (entry : Seen) → trace ≡ behind_entries (entry ∷ []) rest → rest ≡ behind_next trace
behind-some trace rest entry is = sym (ap (λ (t : TraceView). behind_next t) is)

pub next-none : (trace : TraceView) → trace.entries ≡ [] → None ≡ next_entry trace
next-none trace none = sym (ap (λ (l : List Seen). next_entry (record trace { entries = l })) none)

pub behind-none : (trace : TraceView) → trace.entries ≡ [] → trace ≡ behind_next trace
behind-none trace none =
    ap (λ (l : List Seen). let t : TraceView = record trace { entries = l } in t) none
    ∙ sym (ap (λ (l : List Seen). behind_next (record trace { entries = l })) none)

-- without entries to come the open batch is the last one
last_by : (size : ℕ) (here : Reached) (batch : OpenBatch) (number context : ℕ) (act : Act) (lines : List Line)
    → (entries_from size (carried_out here number context act) (batch_past size here batch act) lines ≡ [] → batch_from size (carried_out here number context act) (batch_past size here batch act) lines ≡ batch_past size here batch act)
    → entries_by size here batch number context act ++ entries_from size (carried_out here number context act) (batch_past size here batch act) lines ≡ []
    → batch_from size (carried_out here number context act) (batch_past size here batch act) lines ≡ batch
last_by size here batch number context (Mem at bytes) lines rest none = rest none
last_by size here batch number context (Image name width height at) lines rest none = rest none
last_by size here batch number context (Gl call) lines rest none = absurd (cc)

batch_from-last : (size : ℕ) (here : Reached) (batch : OpenBatch) (lines : List Line) → entries_from size here batch lines ≡ [] → batch_from size here batch lines ≡ batch
unfolding entries_from batch_from
batch_from-last size here batch [] none = refl
batch_from-last size here batch (line ∷ lines) none =
    last_by size here batch line.number line.context line.act lines (batch_from-last size (past_line here line) (batch_past size here batch line.act) lines) none

pub last_here : (here : HereView) (lines : List Line) → (trace_here here lines).entries ≡ [] → end_of_batch here.batch NoMore ≡ (trace_here here lines).last
last_here here lines none =
    sym (ap (λ (b : OpenBatch). end_of_batch b NoMore) (batch_from-last here.size (reached here) here.batch (lines_in here.context lines) none))

-- a line passed: what it gave, and what is still to come
module _ (here behind : HereView) (line : Line) (lines rest : List Line) (entry : Option Entry) (first : lines ≡ line ∷ rest) (passes : Passes here behind line (listed (option_map seen entry))) where
  passed : trace_here here lines ≡ behind_entries (listed (option_map seen entry)) (trace_here behind rest)
  passed = ap (λ (l : List Line). trace_here here l) first ∙ passes rest

  none_by : (given : Option Entry) → is_some given ≡ false → trace_here here lines ≡ behind_entries (listed (option_map seen given)) (trace_here behind rest) → trace_here behind rest ≡ trace_here here lines
  none_by None none is = sym is
  none_by (Some given) none is = absurd (true≢false none)

  pub passed_none : is_some entry ≡ false → trace_here behind rest ≡ trace_here here lines
  passed_none none = none_by entry none passed

  next_by : (given : Option Entry) → is_some given ≡ true → trace_here here lines ≡ behind_entries (listed (option_map seen given)) (trace_here behind rest) → option_map seen given ≡ next_entry (trace_here here lines)
  next_by None some is = absurd (true≢false (sym some))
  next_by (Some given) some is = next-some (trace_here here lines) (trace_here behind rest) (seen given) is

  pub passed_next : is_some entry ≡ true → option_map seen entry ≡ next_entry (trace_here here lines)
  passed_next some = next_by entry some passed

  behind_by : (given : Option Entry) → is_some given ≡ true → trace_here here lines ≡ behind_entries (listed (option_map seen given)) (trace_here behind rest) → trace_here behind rest ≡ behind_next (trace_here here lines)
  behind_by None some is = absurd (true≢false (sym some))
  behind_by (Some given) some is = behind-some (trace_here here lines) (trace_here behind rest) (seen given) is

  pub passed_behind : is_some entry ≡ true → trace_here behind rest ≡ behind_next (trace_here here lines)
  passed_behind some = behind_by entry some passed

-- no line is left: no entry is still to come
pub ended_next : (here : HereView) (lines : List Line) → lines ≡ [] → None ≡ next_entry (trace_here here lines)
ended_next here lines none = next-none (trace_here here lines) (ap (λ (l : List Line). (trace_here here l).entries) none ∙ ap (λ (t : TraceView). t.entries) (trace-nil here))

pub ended_behind : (here : HereView) (lines : List Line) → lines ≡ [] → trace_here here lines ≡ behind_next (trace_here here lines)
ended_behind here lines none = behind-none (trace_here here lines) (ap (λ (l : List Line). (trace_here here l).entries) none ∙ ap (λ (t : TraceView). t.entries) (trace-nil here))

pub nil_from_short : (lines : List Line) → length lines < 1 → lines ≡ []
nil_from_short [] short = refl
nil_from_short (line ∷ lines) short = absurd (omega arith)
