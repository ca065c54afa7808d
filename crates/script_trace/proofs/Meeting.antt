-- What is found of a call where it is met, and what that makes of its entry.
use Rattle.std.proofs.Common.{◌≡◌, ℕ, ◌≤◌, ℤ, List, Option, Some, None, refl, sym, ap, subst, ◌∙◌, arith}
use Rattle.std.specs.Prelude.{is_some}
use Rattle.gl_words.specs.declared.call.Call.{Call}
use Rattle.gl_words.specs.declared.call.Call.TheVariants.{ReadPixels}
use Rattle.gl_words.specs.declared.error.GlError.{GlError}
use Rattle.gl_memory.specs.ClientMemory.{memory_of}
use Rattle.gl_memory.specs.Segment.{Segment}
use Rattle.gl_memory.specs.declared.piece.Piece.{Piece}
use Rattle.gl_tracked.specs.declared.tracked.Tracked.{Tracked}
use Rattle.gl_tracked.specs.Fault.{fault_of}
use Rattle.gl_tracked.specs.Step.{number_asked, set_by, tracked_after, unless_fault}
use Rattle.batch_pack.specs.Spelling.{Spelled, slots_of}
use Rattle.batch_pack.proofs.Parsing.{some_slots}
use Rattle.driver_trait.specs.Output.{bytes_written, memory_after}
use Rattle.driver_trait.specs.Reply.{Replied, Nothing, Numbers, Bytes}
use Rattle.gl_state.specs.Event.{event_by}
use Rattle.gl_state.proofs.Stepping.{tracked_of-private_after}
use Rattle.soft_driver.specs.Own.{given_back, own_step}
use Rattle.soft_driver.specs.Renderer.{SoftSteps, SoftView, soft_after, soft_reply}
use Rattle.client_shadow.specs.Class.{captured_for, class_of, pieces_of}
use Rattle.client_shadow.specs.Look.{Captures, HasHeading, class_in, number_in}
use Rattle.replay_lines.specs.Results.{printed}
use Rattle.script_reader.specs.declared.script.Act.TheVariants.{Gl}
use Rattle.client_shadow.specs.declared.class.Class.{Class}
use Rattle.client_shadow.specs.declared.class.Class.TheVariants as classes
use Rattle.client_shadow.specs.declared.look.Becomes.{Becomes}
use Rattle.client_shadow.specs.declared.look.Becomes.TheVariants.{Answer, Sync, Defer}
use Rattle.client_shadow.proofs.Capturing.{captured-captured_for}
use Rattle.client_shadow.proofs.Classes.{slots_of-defer}
use Rattle.script_trace.specs.Cause.{cause_of, fate_by}
use Rattle.script_trace.specs.Entries.{HereView, Seen, batch_here, entry_here, fate_here, here_past, reached}
use Rattle.script_trace.specs.Errors.{error_of, recorded_beside}
use Rattle.script_trace.specs.Keeping.{CanJoin, IsWithin, slots_in}
use Rattle.script_trace.specs.OpenBatch.{batch_behind, ended_before, ended_with, first_batch, with_class}
use Rattle.script_trace.specs.declared.entry.Recorded.{Recorded}
use Rattle.script_trace.specs.declared.fate.BatchEnd.{BatchEnd}
use Rattle.script_trace.specs.declared.fate.Cause.{Cause}
use Rattle.script_trace.specs.declared.fate.Fate.{Fate}
use Rattle.script_trace.specs.declared.open_batch.OpenBatch.{OpenBatch}

-- the reply of a call is written by the tracked state after it as by that before it: only ReadPixels goes by tracked state, and sets none
bytes_written-noted : (fault : Option GlError) (tracked : Tracked) (call : Call) (segments : List Segment) (bytes memory : List ℕ)
    → bytes_written (unless_fault fault tracked (set_by tracked call segments)) call bytes memory ≡ bytes_written tracked call bytes memory
unfolding set_by
bytes_written-noted None tracked (ReadPixels x y width height format kind pixels) segments bytes memory = refl
bytes_written-noted (Some error) tracked (ReadPixels x y width height format kind pixels) segments bytes memory = refl
bytes_written-noted fault tracked _ segments bytes memory = refl

pub memory_after-noted : (tracked : Tracked) (call : Call) (segments : List Segment) (reply : Replied) (memory : List ℕ) → memory_after (tracked_after tracked call segments) call reply memory ≡ memory_after tracked call reply memory
unfolding memory_after tracked_after
memory_after-noted tracked call segments Nothing memory = refl
memory_after-noted tracked call segments (Numbers numbers) memory = refl
memory_after-noted tracked call segments (Bytes bytes) memory = bytes_written-noted (fault_of tracked call) tracked call segments bytes memory

-- the tracked part of the renderer after a call
pub tracked-soft_after : (st : SoftView) (call : Call) (memory : List Segment) → tracked_after st.own.state.tracked call memory ≡ (soft_after st call memory).own.state.tracked
unfolding soft_after own_step
tracked-soft_after st call memory =
    sym (tracked_of-private_after st.own.state call memory (given_back st.objects (event_by (fault_of st.own.state.tracked call) st.own.state call memory)).fault)

-- where a call is put off, its heading has the slots of its spelling
pub slots_in-defer : (tracked : Tracked) (call : Call) (memory : List ℕ) (becomes : Becomes) (found : List Piece) → Captures becomes found (pieces_of tracked call (memory_of memory)) → HasHeading becomes call found memory
    → class_in becomes ≡ classes.Defer → slots_in becomes ≡ slots_of (captured_for tracked call (memory_of memory))
slots_in-defer tracked call memory (Answer number) found captures heading is = absurd (cc)
slots_in-defer tracked call memory (Sync asks) found captures heading is = absurd (cc)
slots_in-defer tracked call memory (Defer head) found captures heading is =
    heading.slots ∙ ap (λ (spelled : Spelled). slots_of spelled) (captured-captured_for tracked call found memory captures)

-- so it can join a batch
can_join_by : (size slots : ℕ) (becomes : Becomes) → (class_in becomes ≡ classes.Defer → (slots_in becomes ≡ slots) × (1 ≤ slots) × (slots ≤ size)) → CanJoin size becomes
can_join_by size slots (Answer number) known = tt
can_join_by size slots (Sync asks) known = tt
can_join_by size slots (Defer head) known = (omega (arith, (known refl).0, (known refl).1), omega (arith, (known refl).0, (known refl).2))

module _ (size : ℕ) (tracked : Tracked) (call : Call) (memory : List ℕ) (becomes : Becomes) (found : List Piece)
    (class : class_in becomes ≡ class_of tracked call (memory_of memory) size) (number : number_in becomes ≡ number_asked tracked call)
    (captures : Captures becomes found (pieces_of tracked call (memory_of memory))) (heading : HasHeading becomes call found memory) where
  abbrev length_here : ℕ
  length_here = slots_of (captured_for tracked call (memory_of memory))

  abbrev class_here : Class
  class_here = class_of tracked call (memory_of memory) size

  pub can_join : CanJoin size becomes
  can_join =
      can_join_by size length_here becomes (λ is. (
        slots_in-defer tracked call memory becomes found captures heading is,
        some_slots (captured_for tracked call (memory_of memory)),
        slots_of-defer tracked call (memory_of memory) size (sym class ∙ is),
      ))

  -- the slots matter only to a call that is put off
  ended_by_slots : (k : Class) (batch : OpenBatch) (slots : ℕ) → (k ≡ classes.Defer → slots ≡ length_here) → ended_before k size batch slots ≡ ended_before k size batch length_here
  ended_by_slots classes.Answer batch slots known = refl
  ended_by_slots classes.Sync batch slots known = refl
  ended_by_slots classes.Defer batch slots known = ap (λ (n : ℕ). ended_before classes.Defer size batch n) (known refl)

  with_by_slots : (k : Class) (batch : OpenBatch) (slots : ℕ) → (k ≡ classes.Defer → slots ≡ length_here) → with_class k size batch slots ≡ with_class k size batch length_here
  with_by_slots classes.Answer batch slots known = refl
  with_by_slots classes.Sync batch slots known = refl
  with_by_slots classes.Defer batch slots known = ap (λ (n : ℕ). with_class classes.Defer size batch n) (known refl)

  known_slots : class_in becomes ≡ classes.Defer → slots_in becomes ≡ length_here
  known_slots is = slots_in-defer tracked call memory becomes found captures heading is

  pub ended_before-found : (batch : OpenBatch) → ended_before (class_in becomes) size batch (slots_in becomes) ≡ ended_before class_here size batch length_here
  ended_before-found batch = ended_by_slots (class_in becomes) batch (slots_in becomes) known_slots ∙ ap (λ (k : Class). ended_before k size batch length_here) class

  pub with_class-found : (batch : OpenBatch) → with_class (class_in becomes) size batch (slots_in becomes) ≡ with_class class_here size batch length_here
  with_class-found batch = with_by_slots (class_in becomes) batch (slots_in becomes) known_slots ∙ ap (λ (k : Class). with_class k size batch length_here) class

  pub ended_with-found : (batch : OpenBatch) → ended_with (class_in becomes) call batch ≡ ended_with class_here call batch
  ended_with-found batch = ap (λ (k : Class). ended_with k call batch) class

  pub batch_behind-found : (batch : OpenBatch) → batch_behind (class_in becomes) call batch ≡ batch_behind class_here call batch
  batch_behind-found batch = ap (λ (k : Class). batch_behind k call batch) class

-- the first batch is within its size
pub within_first : (size : ℕ) (batch : OpenBatch) → batch ≡ first_batch → IsWithin size batch
within_first size batch is = subst (λ (b : OpenBatch). IsWithin size b) (sym is) (record { few_slots = omega arith; few_calls = omega arith; no_slots = λ none. refl })

-- an entry by its parts
abbrev seen_at : ℕ → ℕ → Call → List ℤ → Option Recorded → Option BatchEnd → Fate → Option BatchEnd → Seen
seen_at line context call reply error ended fate sent = record {
  line = line;
  context = context;
  call = call;
  reply = reply;
  error = error;
  ended = ended;
  fate = fate;
  sent = sent;
}

seen_eq : (line context : ℕ) (call : Call) (reply reply2 : List ℤ) (error error2 : Option Recorded) (ended ended2 : Option BatchEnd) (fate fate2 : Fate) (sent sent2 : Option BatchEnd)
    → reply ≡ reply2 → error ≡ error2 → ended ≡ ended2 → fate ≡ fate2 → sent ≡ sent2 → seen_at line context call reply error ended fate sent ≡ seen_at line context call reply2 error2 ended2 fate2 sent2
seen_eq line context call reply reply2 error error2 ended ended2 fate fate2 sent sent2 one two three four five =
    ap (λ (x : List ℤ). seen_at line context call x error ended fate sent) one
    ∙ ap (λ (x : Option Recorded). seen_at line context call reply2 x ended fate sent) two
    ∙ ap (λ (x : Option BatchEnd). seen_at line context call reply2 error2 x fate sent) three
    ∙ ap (λ (x : Fate). seen_at line context call reply2 error2 ended2 x sent) four
    ∙ ap (λ (x : Option BatchEnd). seen_at line context call reply2 error2 ended2 fate2 x) five

-- a context by its parts
abbrev here_at : ℕ → ℕ → SoftView → List ℕ → OpenBatch → HereView
here_at size context st memory batch = record {
  size = size;
  context = context;
  own = st.own;
  objects = st.objects;
  memory = memory;
  batch = batch;
}

-- where a call is met, of which this is found
module _ (size context line : ℕ) (st st2 : SoftView) (memory memory2 : List ℕ) (shadow : Tracked) (batch taken sent : OpenBatch) (call : Call) (becomes : Becomes) (found : List Piece) (reply : Replied)
    (same : shadow ≡ st.own.state.tracked) (class : class_in becomes ≡ class_of shadow call (memory_of memory) size) (number : number_in becomes ≡ number_asked shadow call)
    (captures : Captures becomes found (pieces_of shadow call (memory_of memory))) (heading : HasHeading becomes call found memory) (step : SoftSteps st call (memory_of memory) st2 reply)
    (is_taken : taken ≡ with_class (class_in becomes) size batch (slots_in becomes)) (is_sent : sent ≡ batch_behind (class_in becomes) call taken) (wrote : memory2 ≡ memory_after shadow call reply memory) where
  abbrev here : HereView
  here = here_at size context st memory batch

  class2 : class_in becomes ≡ class_of st.own.state.tracked call (memory_of memory) size
  class2 = subst (λ (t : Tracked). class_in becomes ≡ class_of t call (memory_of memory) size) same class

  number2 : number_in becomes ≡ number_asked st.own.state.tracked call
  number2 = subst (λ (t : Tracked). number_in becomes ≡ number_asked t call) same number

  captures2 : Captures becomes found (pieces_of st.own.state.tracked call (memory_of memory))
  captures2 = subst (λ (t : Tracked). Captures becomes found (pieces_of t call (memory_of memory))) same captures

  taken_here : taken ≡ batch_here size (reached here) batch call
  taken_here = is_taken ∙ with_class-found size st.own.state.tracked call memory becomes found class2 number2 captures2 heading batch

  pub met_entry : (printed_reply : List ℤ) (before error : Option GlError) (cause : Option Cause) (recorded : Option Recorded) (ended : Option BatchEnd) (fate : Fate) (ends : Option BatchEnd)
      → printed_reply ≡ printed call reply → before ≡ st.own.state.error → error ≡ error_of st.own st.objects call (memory_of memory) → recorded ≡ recorded_beside before error
      → cause ≡ cause_of shadow call (memory_of memory) size → ended ≡ ended_before (class_in becomes) size batch (slots_in becomes)
      → fate ≡ fate_by cause (is_some (number_in becomes)) taken.number taken.slots → ends ≡ ended_with (class_in becomes) call taken
      → seen_at line context call printed_reply recorded ended fate ends ≡ entry_here size (reached here) batch line context call
  unfolding entry_here soft_reply
  met_entry printed_reply before error cause recorded ended fate ends is_printed is_before is_error is_recorded is_cause is_ended is_fate is_end =
      let tracked = st.own.state.tracked in
      let segments = memory_of memory in
      let there = batch_here size (reached here) batch call in
      seen_eq line context call printed_reply (printed call (own_step st.own call segments st.objects).reply) recorded (recorded_beside st.own.state.error (error_of st.own st.objects call segments))
      ended (ended_before (class_of tracked call segments size) size batch (slots_of (captured_for tracked call segments))) fate (fate_here size (reached here) batch call)
      ends (ended_with (class_of tracked call segments size) call there)
      (is_printed ∙ ap (λ (r : Replied). printed call r) (step.1))
      (is_recorded ∙ ap (λ (e : Option GlError). recorded_beside e error) is_before ∙ ap (λ (e : Option GlError). recorded_beside st.own.state.error e) is_error)
      (is_ended ∙ ended_before-found size tracked call memory becomes found class2 number2 captures2 heading batch)
      (is_fate
      ∙ ap (λ (c : Option Cause). fate_by c (is_some (number_in becomes)) taken.number taken.slots) (is_cause ∙ ap (λ (t : Tracked). cause_of t call segments size) same)
      ∙ ap (λ (n : Option ℤ). fate_by (cause_of tracked call segments size) (is_some n) taken.number taken.slots) number2
      ∙ ap (λ (b : OpenBatch). fate_by (cause_of tracked call segments size) (is_some (number_asked tracked call)) b.number b.slots) taken_here)
      (is_end ∙ ap (λ (b : OpenBatch). ended_with (class_in becomes) call b) taken_here ∙ ended_with-found size tracked call memory becomes found class2 number2 captures2 heading there)

  pub met_past : here_at size context st2 memory2 sent ≡ here_past here line context (Gl call)
  unfolding soft_after soft_reply
  met_past =
      let tracked = st.own.state.tracked in
      let segments = memory_of memory in
      let there = batch_here size (reached here) batch call in
      ap (λ (s : SoftView). here_at size context s memory2 sent) (step.0)
      ∙ ap (λ (m : List ℕ). here_at size context (soft_after st call segments) m sent)
      (wrote ∙ ap (λ (t : Tracked). memory_after t call reply memory) same ∙ ap (λ (r : Replied). memory_after tracked call r memory) (step.1))
      ∙ ap (λ (b : OpenBatch). here_at size context (soft_after st call segments) (memory_after tracked call (soft_reply st call segments) memory) b)
      (is_sent ∙ ap (λ (b : OpenBatch). batch_behind (class_in becomes) call b) taken_here ∙ batch_behind-found size tracked call memory becomes found class2 number2 captures2 heading there)

  pub met_tracked : (noted : Tracked) → noted ≡ tracked_after shadow call (memory_of memory) → noted ≡ st2.own.state.tracked
  met_tracked noted is =
      is ∙ ap (λ (t : Tracked). tracked_after t call (memory_of memory)) same ∙ tracked-soft_after st call (memory_of memory) ∙ ap (λ (s : SoftView). s.own.state.tracked) (sym (step.0))
