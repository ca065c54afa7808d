-- Sums of a trace, entry by entry.
use Rattle.std.proofs.Common.{◌≡◌, ℕ, ◌+◌, ◌*◌, ◌≤◌, ◌==◌, Bool, true, false, cond, List, [], ◌∷◌, ◌++◌, length, drop, Option, Some, None, refl, sym, ap, subst, ◌∙◌, append_assoc, arith, length-append, zero-add}
use Rattle.std.specs.List.{flat_map}
use Rattle.std.proofs.lemmas.List.Concat.{flat_map-cons}
use Rattle.std.proofs.lemmas.List.Sums.{count_by-le-length, length-filter, sum_by-cons}
use Rattle.std.specs.Prelude.{option_map}
use Rattle.client_shadow.specs.Cutting.{Tally, is_class, tally_of}
use Rattle.replay_core.specs.Calls.{calls_of}
use Rattle.script_trace.specs.declared.entry.Entry.{Entry}
use Rattle.script_trace.proofs.Tracing.{trace_law_holds}
use Rattle.client_shadow.specs.declared.class.Class.{Class}
use Rattle.client_shadow.specs.declared.class.Class.TheVariants.{Answer, Sync, Defer}
use Rattle.script_reader.specs.declared.script.Act.{Act}
use Rattle.script_reader.specs.declared.script.Act.TheVariants.{Mem, Image, Gl}
use Rattle.script_reader.specs.declared.script.Line.{Line}
use Rattle.replay_lines.specs.Lines.{lines_in}
use Rattle.replay_core.specs.Direct.{Reached, past_line, start_of}
use Rattle.replay_core.specs.Script.{Scripted}
use Rattle.script_trace.specs.OpenBatch.{first_batch}
use Rattle.script_trace.specs.declared.open_batch.OpenBatch.{OpenBatch}
use Rattle.script_trace.specs.Cause.{class_in_fate}
use Rattle.script_trace.specs.Entries.{Seen, TraceView, batch_past, behind_next, entries_by, entries_from, next_entry, seen, trace_of}
use Rattle.script_trace.specs.Tallies.{HasRoom, count_in, ends_at, ends_in, listed, no_tally, one_if, tally_in, with_end, with_entry}
use Rattle.script_trace.specs.declared.fate.BatchEnd.{BatchEnd}

-- there is none
abbrev NotSome : Option Entry → Type 0
NotSome given = (entry : Entry) → given ≡ Some entry → ⊥

-- four numbers as a record
abbrev tally_at : ℕ → ℕ → ℕ → ℕ → Tally
tally_at deferred synchronised answered batches = record { deferred = deferred; synchronised = synchronised; answered = answered; batches = batches }

-- four numbers with those of a trace more
abbrev pub with_trace : Tally → TraceView → Tally
with_trace tally trace = record {
  deferred = tally.deferred + count_in Defer trace.entries;
  synchronised = tally.synchronised + count_in Sync trace.entries;
  answered = tally.answered + count_in Answer trace.entries;
  batches = tally.batches + length (ends_in trace);
}

tally_eq : (d s a b d2 s2 a2 b2 : ℕ) → d ≡ d2 → s ≡ s2 → a ≡ a2 → b ≡ b2 → tally_at d s a b ≡ tally_at d2 s2 a2 b2
tally_eq d s a b d2 s2 a2 b2 one two three four =
    ap (λ (n : ℕ). tally_at n s a b) one
    ∙ ap (λ (n : ℕ). tally_at d2 n a b) two
    ∙ ap (λ (n : ℕ). tally_at d2 s2 n b) three
    ∙ ap (λ (n : ℕ). tally_at d2 s2 a2 n) four

-- an entry first
count_in-cons : (class : Class) (entry : Seen) (entries : List Seen) → count_in class (entry ∷ entries) ≡ one_if class (class_in_fate entry.fate) + count_in class entries
unfolding count_in
count_in-cons class entry entries = sum_by-cons (λ (e : Seen). cond (is_class class (class_in_fate e.fate)) 1 0) entry entries

ends_in-cons : (entry : Seen) (trace : TraceView) → length (ends_in (record trace { entries = entry ∷ trace.entries })) ≡ length (ends_at entry) + length (ends_in trace)
unfolding ends_in
ends_in-cons entry trace =
    ap (λ (l : List BatchEnd). length (l ++ listed trace.last)) (flat_map-cons ends_at entry trace.entries)
    ∙ ap (λ (l : List BatchEnd). length l) (append_assoc (ends_at entry) (flat_map ends_at trace.entries) (listed trace.last))
    ∙ length-append (ends_at entry) (flat_map ends_at trace.entries ++ listed trace.last)

-- none yet
pub with_trace-first : (trace : TraceView) → with_trace no_tally trace ≡ tally_in trace
unfolding tally_in
with_trace-first trace =
    tally_eq _ _ _ _ _ _ _ _ (zero-add (count_in Defer trace.entries)) (zero-add (count_in Sync trace.entries)) (zero-add (count_in Answer trace.entries)) (zero-add (length (ends_in trace)))

-- an entry is counted, and then those behind it
with_trace-cons : (tally : Tally) (entry : Seen) (rest : TraceView) → with_trace (with_entry tally entry) rest ≡ with_trace tally (record rest { entries = entry ∷ rest.entries })
with_trace-cons tally entry rest =
    tally_eq _ _ _ _ _ _ _ _
    (omega (arith, count_in-cons Defer entry rest.entries))
    (omega (arith, count_in-cons Sync entry rest.entries))
    (omega (arith, count_in-cons Answer entry rest.entries))
    (omega (arith, ends_in-cons entry rest))

module _ (tally : Tally) (trace : TraceView) where
  with_trace-next_by : (entries : List Seen) (entry : Seen) → Some entry ≡ next_entry (record trace { entries = entries })
      → with_trace (with_entry tally entry) (behind_next (record trace { entries = entries })) ≡ with_trace tally (record trace { entries = entries })
  with_trace-next_by [] entry is = absurd (cc)
  with_trace-next_by (first ∷ others) entry is =
      let same : entry ≡ first = cc in
      ap (λ (e : Seen). with_trace (with_entry tally e) (record trace { entries = others })) same ∙ with_trace-cons tally first (record trace { entries = others })

  pub with_trace-next : (entry : Seen) → Some entry ≡ next_entry trace → with_trace (with_entry tally entry) (behind_next trace) ≡ with_trace tally trace
  with_trace-next entry is = with_trace-next_by trace.entries entry is

  -- fewer are still to come
  fewer_by : (entries : List Seen) (entry : Seen) → Some entry ≡ next_entry (record trace { entries = entries }) → length (drop 1 entries) + 1 ≡ length entries
  fewer_by [] entry is = absurd (cc)
  fewer_by (first ∷ others) entry is = omega arith

  pub fewer : (entry : Seen) → Some entry ≡ next_entry trace → length (behind_next trace).entries + 1 ≡ length trace.entries
  fewer entry is = fewer_by trace.entries entry is

  none_by : (entries : List Seen) → None ≡ next_entry (record trace { entries = entries }) → entries ≡ []
  none_by [] is = refl
  none_by (first ∷ others) is = absurd (cc)

  pub none_left : None ≡ next_entry trace → trace.entries ≡ []
  none_left is = none_by trace.entries is

  -- the last batch
  pub with_trace-end : trace.entries ≡ [] → with_trace tally trace ≡ with_end tally trace.last
  unfolding count_in ends_in
  with_trace-end none =
      ap (λ (l : List Seen). with_trace tally (record trace { entries = l })) none
      ∙ tally_eq (tally.deferred + 0) (tally.synchronised + 0) (tally.answered + 0) (tally.batches + length (listed trace.last)) tally.deferred tally.synchronised tally.answered (tally.batches + length (listed trace.last))
      (omega arith) (omega arith) (omega arith) refl

-- at most two batches end at an entry
few_listed : {A : Type 0} (value : Option A) → length (listed value) ≤ 1
few_listed None = omega arith
few_listed (Some value) = omega arith

pub few_ends : (entry : Seen) → length (ends_at entry) ≤ 2
few_ends entry = omega (arith, length-append (listed entry.ended) (listed entry.sent), few_listed entry.ended, few_listed entry.sent)

one_by : (truth : Bool) → cond truth 1 0 ≤ 1
one_by true = omega arith
one_by false = omega arith

pub few_ones : (class other : Class) → one_if class other ≤ 1
few_ones class other = one_by (is_class class other)

-- so much space is left for so many entries
pub record HasSpace (tally : Tally) (left : ℕ) : Type 0 where
  pub deferred : tally.deferred + 2 * left ≤ 1048576
  pub synchronised : tally.synchronised + 2 * left ≤ 1048576
  pub answered : tally.answered + 2 * left ≤ 1048576
  pub batches : tally.batches + 2 * left ≤ 1048576

pub HasRoom-space : (tally : Tally) (left : ℕ) → HasSpace tally left → HasRoom tally
HasRoom-space tally left space = record {
  deferred = omega (arith, space.deferred);
  synchronised = omega (arith, space.synchronised);
  answered = omega (arith, space.answered);
  batches = omega (arith, space.batches);
}

pub HasSpace-first : (left most : ℕ) → left ≤ most → most ≤ 262144 → HasSpace no_tally left
HasSpace-first left most few small = record { deferred = omega arith; synchronised = omega arith; answered = omega arith; batches = omega arith }

pub HasSpace-next : (tally : Tally) (entry : Seen) (left fewer : ℕ) → fewer + 1 ≡ left → HasSpace tally left → HasSpace (with_entry tally entry) fewer
HasSpace-next tally entry left fewer less space = record {
  deferred = omega (arith, space.deferred, few_ones Defer (class_in_fate entry.fate));
  synchronised = omega (arith, space.synchronised, few_ones Sync (class_in_fate entry.fate));
  answered = omega (arith, space.answered, few_ones Answer (class_in_fate entry.fate));
  batches = omega (arith, space.batches, few_ends entry);
}

-- a line has at most one entry
few_by : (size : ℕ) (here : Reached) (batch : OpenBatch) (number context : ℕ) (act : Act) → length (entries_by size here batch number context act) ≤ 1
few_by size here batch number context (Mem at bytes) = omega arith
few_by size here batch number context (Image name width height at) = omega arith
few_by size here batch number context (Gl call) = omega arith

few_from : (size : ℕ) (here : Reached) (batch : OpenBatch) (lines : List Line) → length (entries_from size here batch lines) ≤ length lines
unfolding entries_from
few_from size here batch [] = omega arith
few_from size here batch (line ∷ lines) =
    let now = entries_by size here batch line.number line.context line.act in
    let later = entries_from size (past_line here line) (batch_past size here batch line.act) lines in
    omega (arith, length-append now later, few_by size here batch line.number line.context line.act, few_from size (past_line here line) (batch_past size here batch line.act) lines)

few_lines : (context : ℕ) (lines : List Line) → length (lines_in context lines) ≤ length lines
few_lines context lines = omega (arith, length-filter (λ (line : Line). line.context == context) lines, count_by-le-length (λ (line : Line). line.context == context) lines)

-- a trace has at most as many entries as the script has lines
pub few_entries : (size context : ℕ) (script : Scripted) → length (trace_of size context script).entries ≤ length script.lines
unfolding trace_of
few_entries size context script =
    omega (arith, few_from size (start_of context script) first_batch (lines_in context script.lines), few_lines context script.lines)

-- a trace as it is gone through
module _ (size context : ℕ) (script : Scripted) where
  -- what is counted and what is still to come, from the start on
  pub whole_first : (tally : Tally) (trace : TraceView) → tally ≡ no_tally → trace ≡ trace_of size context script → with_trace tally trace ≡ with_trace no_tally (trace_of size context script)
  whole_first tally trace none all = ap (λ (t : Tally). with_trace t trace) none ∙ ap (λ (t : TraceView). with_trace no_tally t) all

  pub space_first : (tally : Tally) (trace : TraceView) → tally ≡ no_tally → trace ≡ trace_of size context script → length script.lines ≤ 262144 → HasSpace tally (length trace.entries)
  space_first tally trace none all few =
      let enough : HasSpace no_tally (length trace.entries) = HasSpace-first (length trace.entries) (length script.lines) (omega (arith, ap (λ (t : TraceView). length t.entries) all, few_entries size context script)) few in
      subst (λ (t : Tally). HasSpace t (length trace.entries)) (sym none) enough

module _ (tally tally2 : Tally) (trace trace2 : TraceView) (given : Option Entry) (next : option_map seen given ≡ next_entry trace) (left : trace2 ≡ behind_next trace) where
  -- an entry more
  module _ (entry : Entry) (is : given ≡ Some entry) (added : tally2 ≡ with_entry tally (seen entry)) where
    given_next : Some (seen entry) ≡ next_entry trace
    given_next = ap (λ (e : Option Entry). option_map seen e) (sym is) ∙ next

    pub whole_next : with_trace tally2 trace2 ≡ with_trace tally trace
    whole_next =
        ap (λ (t : Tally). with_trace t trace2) added
        ∙ ap (λ (t : TraceView). with_trace (with_entry tally (seen entry)) t) left
        ∙ with_trace-next tally trace (seen entry) given_next

    pub space_next : HasSpace tally (length trace.entries) → HasSpace tally2 (length trace2.entries)
    space_next space =
        let less : length trace2.entries + 1 ≡ length trace.entries = ap (λ (t : TraceView). length t.entries + 1) left ∙ fewer tally trace (seen entry) given_next in
        subst (λ (t : Tally). HasSpace t (length trace2.entries)) (sym added) (HasSpace-next tally (seen entry) (length trace.entries) (length trace2.entries) less space)

  -- the end
  module _ (none : NotSome given) where
    no_next : (e : Option Entry) → NotSome e → option_map seen e ≡ next_entry trace → trace.entries ≡ []
    no_next None not is = none_left tally trace is
    no_next (Some entry) not is = absurd (not entry refl)

    no_entries : trace.entries ≡ []
    no_entries = no_next given none next

    pub none_behind : trace2.entries ≡ []
    none_behind = ap (λ (t : TraceView). t.entries) left ∙ ap (λ (l : List Seen). drop 1 l) no_entries

    pub whole_end : (last : Option BatchEnd) (size context : ℕ) (script : Scripted) → (trace2.entries ≡ [] → last ≡ trace2.last) → tally2 ≡ with_end tally last
        → with_trace tally trace ≡ with_trace no_tally (trace_of size context script) → tally2 ≡ tally_of size (calls_of size context script)
    whole_end last size context script ends added whole =
        added
        ∙ ap (λ (l : Option BatchEnd). with_end tally l) (ends none_behind ∙ ap (λ (t : TraceView). t.last) left)
        ∙ sym (with_trace-end tally trace no_entries)
        ∙ whole
        ∙ with_trace-first (trace_of size context script)
        ∙ (trace_law_holds size context script).counted
