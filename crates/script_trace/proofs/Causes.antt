-- Classes and causes: a call has a cause exactly where its class is Sync, and its class is that of what becomes of it.
use Rattle.std.proofs.Common.{◌≡◌, ℕ, ℤ, Bool, true, false, ◌||◌, cond, List, Option, Some, None, refl, sym, ap, ◌∙◌}
use Rattle.std.specs.Prelude.{is_some, nat_lt}
use Rattle.gl_words.specs.Call.{is_answering}
use Rattle.gl_words.specs.declared.call.Call.{Call}
use Rattle.gl_memory.specs.Segment.{Segment}
use Rattle.gl_tracked.specs.declared.tracked.Tracked.{Tracked}
use Rattle.gl_tracked.specs.Fault.{fault_of}
use Rattle.gl_tracked.specs.Step.{number_asked, reads_all}
use Rattle.batch_pack.specs.Spelling.{slots_of}
use Rattle.client_shadow.specs.Class.{captured_for, class_of, is_finish, reads_anywhere, waits}
use Rattle.client_shadow.specs.Cutting.{is_class}
use Rattle.client_shadow.specs.declared.class.Class.{Class}
use Rattle.client_shadow.specs.declared.class.Class.TheVariants.{Answer, Sync, Defer}
use Rattle.client_shadow.specs.declared.class.Class.TheVariants as classes
use Rattle.client_shadow.specs.declared.look.Becomes.{Becomes}
use Rattle.client_shadow.specs.declared.look.Becomes.TheVariants as found
use Rattle.client_shadow.specs.Look.{asks_in, class_in}
use Rattle.script_trace.specs.Cause.{cause_beside, cause_of, class_in_fate, fate_by}
use Rattle.script_trace.specs.Law.{CauseLaw}
use Rattle.script_trace.specs.declared.fate.Cause.{Cause}
use Rattle.script_trace.specs.declared.fate.Cause.TheVariants.{Asks, Finishes, TooLong, ReadsAll}

-- a class, and a cause, by the number that is asked for and by the tests behind it
abbrev class_by : Option ℤ → Bool → Bool → Bool → Bool → Class
class_by asked answers finishes anywhere long = cond (is_some asked) Answer (cond answers Sync (cond (finishes || anywhere) Sync (cond long Sync Defer)))

abbrev cause_by : Option ℤ → Bool → Bool → Bool → Bool → ℕ → Option Cause
cause_by asked answers finishes anywhere long length =
    cond (is_some asked) None (cond answers (Some Asks) (cond finishes (Some Finishes) (cond anywhere (Some ReadsAll) (cond long (Some (TooLong length)) None))))

is_sync_by : (asked : Option ℤ) (answers finishes anywhere long : Bool) (length : ℕ)
    → is_some (cause_by asked answers finishes anywhere long length) ≡ is_class Sync (class_by asked answers finishes anywhere long)
is_sync_by (Some number) answers finishes anywhere long length = refl
is_sync_by None true finishes anywhere long length = refl
is_sync_by None false true anywhere long length = refl
is_sync_by None false false true long length = refl
is_sync_by None false false false true length = refl
is_sync_by None false false false false length = refl

class_in_fate_by : (asked : Option ℤ) (answers finishes anywhere long : Bool) (length batch slots : ℕ)
    → class_in_fate (fate_by (cause_by asked answers finishes anywhere long length) (is_some asked) batch slots) ≡ class_by asked answers finishes anywhere long
class_in_fate_by (Some number) answers finishes anywhere long length batch slots = refl
class_in_fate_by None true finishes anywhere long length batch slots = refl
class_in_fate_by None false true anywhere long length batch slots = refl
class_in_fate_by None false false true long length batch slots = refl
class_in_fate_by None false false false true length batch slots = refl
class_in_fate_by None false false false false length batch slots = refl

-- what is found of a call tells its cause, given why it waits if it does
abbrev pub cause_found : Becomes → Cause → Option Cause
cause_found (found.Answer number) cause = None
cause_found (found.Sync asks) cause = Some cause
cause_found (found.Defer heading) cause = None

-- a call that is answered or put off has no cause
none_by : (asked : Option ℤ) (answers finishes anywhere long : Bool) (length : ℕ) → (class_by asked answers finishes anywhere long ≡ Sync → ⊥) → None ≡ cause_by asked answers finishes anywhere long length
none_by (Some number) answers finishes anywhere long length other = refl
none_by None true finishes anywhere long length other = absurd (other refl)
none_by None false true anywhere long length other = absurd (other refl)
none_by None false false true long length other = absurd (other refl)
none_by None false false false true length other = absurd (other refl)
none_by None false false false false length other = refl

-- and one that waits has the one that stands beside
beside_by : (asked : Option ℤ) (answers finishes anywhere long : Bool) (length : ℕ) → class_by asked answers finishes anywhere long ≡ Sync
    → Some (cond answers Asks (cond finishes Finishes (cond anywhere ReadsAll (TooLong length)))) ≡ cause_by asked answers finishes anywhere long length
beside_by (Some number) answers finishes anywhere long length sync = absurd (cc)
beside_by None true finishes anywhere long length sync = refl
beside_by None false true anywhere long length sync = refl
beside_by None false false true long length sync = refl
beside_by None false false false true length sync = refl
beside_by None false false false false length sync = absurd (cc)

answer-sync : classes.Answer ≡ Sync → ⊥
answer-sync is = absurd (cc)

defer-sync : classes.Defer ≡ Sync → ⊥
defer-sync is = absurd (cc)

module _ (tracked : Tracked) (call : Call) (memory : List Segment) (slots : ℕ) where
  abbrev anywhere_here : Bool
  anywhere_here = reads_anywhere (fault_of tracked call) (reads_all tracked call)

  abbrev length_here : ℕ
  length_here = slots_of (captured_for tracked call memory)

  class_of-by : class_of tracked call memory slots ≡ class_by (number_asked tracked call) (is_answering call) (is_finish call) anywhere_here (nat_lt slots length_here)
  unfolding class_of waits
  class_of-by = refl

  cause_of-by : cause_of tracked call memory slots ≡ cause_by (number_asked tracked call) (is_answering call) (is_finish call) anywhere_here (nat_lt slots length_here) length_here
  unfolding cause_of
  cause_of-by = refl

  pub is_sync : is_some (cause_of tracked call memory slots) ≡ is_class Sync (class_of tracked call memory slots)
  is_sync =
      ap (λ (cause : Option Cause). is_some cause) cause_of-by
      ∙ is_sync_by (number_asked tracked call) (is_answering call) (is_finish call) anywhere_here (nat_lt slots length_here) length_here
      ∙ ap (λ (class : Class). is_class Sync class) (sym class_of-by)

  pub class_in_fate-of : (batch used : ℕ) → class_in_fate (fate_by (cause_of tracked call memory slots) (is_some (number_asked tracked call)) batch used) ≡ class_of tracked call memory slots
  class_in_fate-of batch used =
      ap (λ (cause : Option Cause). class_in_fate (fate_by cause (is_some (number_asked tracked call)) batch used)) cause_of-by
      ∙ class_in_fate_by (number_asked tracked call) (is_answering call) (is_finish call) anywhere_here (nat_lt slots length_here) length_here batch used
      ∙ sym class_of-by

  cause_of-none : (class_of tracked call memory slots ≡ Sync → ⊥) → None ≡ cause_of tracked call memory slots
  cause_of-none other =
      none_by (number_asked tracked call) (is_answering call) (is_finish call) anywhere_here (nat_lt slots length_here) length_here (λ is. other (class_of-by ∙ is))
      ∙ sym cause_of-by

  cause_of-sync : class_of tracked call memory slots ≡ Sync → Some (cause_beside (is_answering call) call anywhere_here length_here) ≡ cause_of tracked call memory slots
  cause_of-sync sync =
      beside_by (number_asked tracked call) (is_answering call) (is_finish call) anywhere_here (nat_lt slots length_here) length_here (sym class_of-by ∙ sync)
      ∙ sym cause_of-by

  found_by : (becomes : Becomes) → class_in becomes ≡ class_of tracked call memory slots → asks_in becomes ≡ is_answering call
      → cause_found becomes (cause_beside (asks_in becomes) call anywhere_here length_here) ≡ cause_of tracked call memory slots
  found_by (found.Answer number) class asks = cause_of-none (λ sync. answer-sync (class ∙ sync))
  found_by (found.Defer heading) class asks = cause_of-none (λ sync. defer-sync (class ∙ sync))
  found_by (found.Sync asks) class is =
      ap (λ (answers : Bool). let cause : Option Cause = Some (cause_beside answers call anywhere_here length_here) in cause) is ∙ cause_of-sync (sym class)

  -- a call has the cause that is found
  pub cause_of-found : (becomes other : Becomes) → class_in becomes ≡ class_of tracked call memory slots → asks_in becomes ≡ is_answering call → becomes ≡ other
      → cause_found other (cause_beside (asks_in other) call anywhere_here length_here) ≡ cause_of tracked call memory slots
  cause_of-found becomes other class asks is =
      ap (λ (b : Becomes). cause_found b (cause_beside (asks_in b) call anywhere_here length_here)) (sym is) ∙ found_by becomes class asks

-- so it is of each call
pub cause_law_holds : CauseLaw
cause_law_holds tracked call memory slots = is_sync tracked call memory slots
