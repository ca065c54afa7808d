-- Which calls have which class.
use Rattle.std.proofs.Common.{◌≡◌, ◌≢◌, ℕ, ◌≤◌, arith, ℤ, Bool, true, false, ◌||◌, cond, List, Option, Some, None, refl, sym, ap, ◌∙◌}
use Rattle.std.specs.Prelude.{◌↔◌, IsNone, is_some, nat_lt}
use Rattle.std.proofs.lemmas.Bool.{true≢false}
use Rattle.std.proofs.lemmas.Bool.Decides.{nat_tests}
use Rattle.gl_words.specs.Call.{is_answering}
use Rattle.gl_words.specs.declared.call.Call.{Call}
use Rattle.gl_memory.specs.Segment.{Segment}
use Rattle.batch_pack.specs.Spelling.{slots_of}
use Rattle.client_shadow.specs.declared.class.Class.{Class}
use Rattle.client_shadow.specs.declared.class.Class.TheVariants.{Answer, Sync, Defer}
use Rattle.gl_tracked.specs.declared.tracked.Tracked.{Tracked}
use Rattle.gl_tracked.specs.Fault.{fault_of}
use Rattle.gl_tracked.specs.Step.{number_asked, reads_all}
use Rattle.gl_words.proofs.Places.{by_truth}
use Rattle.gl_tracked.proofs.Stepping.{number_asked-unanswered}
use Rattle.client_shadow.specs.Class.{class_of, captured_for, reads_anywhere, waits}

or_right_false : (a b : Bool) → (a || b) ≡ false → b ≡ false
or_right_false true b h = absurd (true≢false h)
or_right_false false b h = h

-- a class by the number that is asked for, and by the tests behind it
abbrev class_by : Option ℤ → Bool → Bool → Bool → Class
class_by asked answers waiting long = cond (is_some asked) Answer (cond answers Sync (cond waiting Sync (cond long Sync Defer)))

module _ (tracked : Tracked) (call : Call) (memory : List Segment) (slots : ℕ) where
  class_of-by : class_of tracked call memory slots ≡ class_by (number_asked tracked call) (is_answering call) (waits tracked call) (nat_lt slots (slots_of (captured_for tracked call memory)))
  unfolding class_of
  class_of-by = refl

  class_of-asked : (asked : Option ℤ) → asked ≡ number_asked tracked call → class_of tracked call memory slots ≡ class_by asked (is_answering call) (waits tracked call) (nat_lt slots (slots_of (captured_for tracked call memory)))
  class_of-asked asked same =
      class_of-by ∙ ap (λ (o : Option ℤ). class_by o (is_answering call) (waits tracked call) (nat_lt slots (slots_of (captured_for tracked call memory)))) (sym same)

  -- a call that asks for a number is answered
  pub class_of-number : (number : ℤ) → number_asked tracked call ≡ Some number → class_of tracked call memory slots ≡ Answer
  class_of-number number asked = class_of-asked (Some number) (sym asked)

class_by-none : (answers waiting long : Bool) → class_by None answers waiting long ≢ Answer
class_by-none true waiting long is = cc
class_by-none false true long is = cc
class_by-none false false true is = cc
class_by-none false false false is = cc

-- a call asks for no number exactly where its class isn't Answer
pub none-not_answer : (tracked : Tracked) (call : Call) (memory : List Segment) (slots : ℕ) (asked : Option ℤ) → asked ≡ number_asked tracked call → IsNone asked ↔ (class_of tracked call memory slots ≢ Answer)
none-not_answer tracked call memory slots None same = (
  λ none is. class_by-none (is_answering call) (waits tracked call) (nat_lt slots (slots_of (captured_for tracked call memory))) (sym (class_of-asked tracked call memory slots None same) ∙ is),
  λ other. refl,
)
none-not_answer tracked call memory slots (Some number) same = (
  λ none. absurd (cc),
  λ other. absurd (other (class_of-asked tracked call memory slots (Some number) same)),
)

class_by-answer : (asked : Option ℤ) (answers waiting long : Bool) → class_by asked answers waiting long ≡ Answer → (number : ℤ) × (asked ≡ Some number)
class_by-answer None answers waiting long is = absurd (class_by-none answers waiting long is)
class_by-answer (Some number) answers waiting long is = (number, refl)

is_none : (asked : Option ℤ) → IsNone asked → asked ≡ None
is_none None none = refl
is_none (Some number) none = absurd (cc)

-- what a call passed, of which class_by says Defer
record Deferred (asked : Option ℤ) (answers waiting long : Bool) : Type 0 where
  unasked : asked ≡ None
  unanswered : answers ≡ false
  unwaiting : waiting ≡ false
  short : long ≡ false

class_by-defer : (asked : Option ℤ) (answers waiting long : Bool) → class_by asked answers waiting long ≡ Defer → Deferred asked answers waiting long
class_by-defer (Some number) answers waiting long is = absurd (cc)
class_by-defer None true waiting long is = absurd (cc)
class_by-defer None false true long is = absurd (cc)
class_by-defer None false false true is = absurd (cc)
class_by-defer None false false false is = record { unasked = refl; unanswered = refl; unwaiting = refl; short = refl }

module _ (tracked : Tracked) (call : Call) (memory : List Segment) (slots : ℕ) where
  -- a call that is answered asks for a number
  pub number_asked-answer : class_of tracked call memory slots ≡ Answer → (number : ℤ) × (number_asked tracked call ≡ Some number)
  number_asked-answer is = class_by-answer (number_asked tracked call) (is_answering call) (waits tracked call) (nat_lt slots (slots_of (captured_for tracked call memory))) (sym (class_of-by tracked call memory slots) ∙ is)

  -- any other asks for none
  pub number_asked-not_answer : class_of tracked call memory slots ≢ Answer → number_asked tracked call ≡ None
  number_asked-not_answer other = is_none (number_asked tracked call) ((none-not_answer tracked call memory slots (number_asked tracked call) refl).1 other)

  deferred : class_of tracked call memory slots ≡ Defer → Deferred (number_asked tracked call) (is_answering call) (waits tracked call) (nat_lt slots (slots_of (captured_for tracked call memory)))
  deferred is = class_by-defer (number_asked tracked call) (is_answering call) (waits tracked call) (nat_lt slots (slots_of (captured_for tracked call memory))) (sym (class_of-by tracked call memory slots) ∙ is)

  -- a call that is put off isn't answered
  pub is_answering-defer : class_of tracked call memory slots ≡ Defer → is_answering call ≡ false
  is_answering-defer is = (deferred is).unanswered

  -- it doesn't wait
  waits-defer : class_of tracked call memory slots ≡ Defer → waits tracked call ≡ false
  waits-defer is = (deferred is).unwaiting

  -- so without an error it reads no more than ranges
  pub reads_all-defer : class_of tracked call memory slots ≡ Defer → reads_anywhere (fault_of tracked call) (reads_all tracked call) ≡ false
  unfolding waits
  reads_all-defer is = or_right_false _ _ (waits-defer is)

  -- and fits a batch
  pub slots_of-defer : class_of tracked call memory slots ≡ Defer → slots_of (captured_for tracked call memory) ≤ slots
  slots_of-defer is = grind (arith, nat_tests, (deferred is).short)

-- a call that asks for a number of tracked state is one that is answered
pub is_answering-asked : (tracked : Tracked) (call : Call) (number : ℤ) → number_asked tracked call ≡ Some number → true ≡ is_answering call
is_answering-asked tracked call number asked =
    by_truth (is_answering call)
    (λ so. sym so)
    (λ not. let none = number_asked-unanswered tracked call not in absurd (cc (none, asked)))
