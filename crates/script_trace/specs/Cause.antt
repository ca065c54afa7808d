-- Why a call waits, and what becomes of it; own. Which class a call has is told in `client_shadow`.
use Rattle.std.specs.Prelude.{ℕ, Bool, true, false, nat_lt, if◌then◌else◌, List, Option, Some, None, is_some}
use Rattle.gl_words.specs.Call.{is_answering}
use Rattle.gl_words.specs.declared.call.Call.{Call}
use Rattle.gl_memory.specs.Segment.{Segment}
use Rattle.gl_tracked.specs.declared.tracked.Tracked.{Tracked}
use Rattle.gl_tracked.specs.Fault.{fault_of}
use Rattle.gl_tracked.specs.Step.{number_asked, reads_all}
use Rattle.batch_pack.specs.Spelling.{slots_of}
use Rattle.client_shadow.specs.Class.{captured_for, is_finish, reads_anywhere}
use Rattle.client_shadow.specs.declared.class.Class.{Class}
use Rattle.client_shadow.specs.declared.class.Class.TheVariants as classes
use Rattle.script_trace.specs.declared.fate.Cause.{Cause}
use Rattle.script_trace.specs.declared.fate.Cause.TheVariants.{Asks, Finishes, TooLong, ReadsAll}
use Rattle.script_trace.specs.declared.fate.Fate.{Fate}
use Rattle.script_trace.specs.declared.fate.Fate.TheVariants.{Answered, Waits, PutOff}

-- why a call waits, by whether it is answered and may read any place of client memory, and by the slots of its spelling: for its length where it is for nothing else; own
abbrev pub cause_beside : Bool → Call → Bool → ℕ → Cause
cause_beside answers call anywhere length =
    if answers then Asks else (
    if is_finish call then Finishes else (
    if anywhere then ReadsAll else TooLong length))

-- why a call waits that asks for no number of tracked state, by whether it may read any place of client memory, and by the slots of its spelling, if it waits: the tests of its class, in their order; own
abbrev pub cause_unasked : Call → Bool → ℕ → ℕ → Option Cause
cause_unasked call anywhere length slots =
    if is_answering call then Some Asks else (
    if is_finish call then Some Finishes else (
    if anywhere then Some ReadsAll else (
    if nat_lt slots length then Some (TooLong length) else None)))

-- why a call waits, with batches of so many slots, if it does: a get of tracked state doesn't; own
unfoldable pub cause_of : Tracked → Call → List Segment → ℕ → Option Cause
cause_of tracked call memory slots =
    if is_some (number_asked tracked call) then None else cause_unasked call (reads_anywhere (fault_of tracked call) (reads_all tracked call)) (slots_of (captured_for tracked call memory)) slots

-- what becomes of a call that waits for this cause, if it does, and else is answered or put into this batch, of which so many slots are used with it; own
abbrev pub fate_by : Option Cause → Bool → ℕ → ℕ → Fate
fate_by (Some cause) answered batch slots = Waits cause
fate_by None true batch slots = Answered
fate_by None false batch slots = PutOff batch slots

-- the class of a call of which this becomes; own
abbrev pub class_in_fate : Fate → Class
class_in_fate Answered = classes.Answer
class_in_fate (Waits cause) = classes.Sync
class_in_fate (PutOff batch slots) = classes.Defer
