-- The laws of drivers, as every driver that answers first keeps them, and as this one does.
use Rattle.std.proofs.Common.{◌≡◌, ℤ, false, List, Option, Some, None, refl, sym, ap, subst, ◌∙◌}
use Rattle.std.proofs.lemmas.Bool.{true≢false}
use Rattle.gl_words.specs.Call.{is_answering}
use Rattle.gl_words.specs.declared.call.Call.{Call}
use Rattle.gl_words.specs.declared.call.Call.TheVariants.{GetError, GetIntegerv}
use Rattle.gl_words.specs.declared.error.GlError.{GlError}
use Rattle.gl_memory.specs.Segment.{Segment}
use Rattle.gl_tracked.specs.declared.tracked.Tracked.{Tracked}
use Rattle.gl_tracked.specs.Fault.{fault_of}
use Rattle.gl_tracked.specs.Reads.{AgreesOn}
use Rattle.gl_tracked.specs.Step.{tracked_after, number_asked, reads_of}
use Rattle.gl_tracked.proofs.Agreeing.{tracked_after-agrees}
use Rattle.gl_tracked.proofs.Stepping.{tracked_after-asked, number_asked-unanswered}
use Rattle.driver_trait.specs.Driver.{IsDriver, ReadsAlone, Follows, Answers, Replies}
use Rattle.driver_trait.specs.Reply.{Replied, Nothing}
use Rattle.example_driver.specs.declared.counter.Counter.{Counter}
use Rattle.example_driver.specs.AnswersFirst.{AnswersFirst, CarriesOut, LeadsTo}
use Rattle.example_driver.specs.Counter.{CounterSteps, answer_of, clears_after, counter_after, counter_reply, counter_reply_to, recorded_after, tracked_of}

module _ {S : Type 0} (tracked : S → Tracked) (after : S → Call → List Segment → S) (reply : S → Call → Replied) (carries : CarriesOut tracked after reply) where
  other_state : (asked : Option ℤ) (st a b : S) (r : Replied) (st2 : S) (replied : Replied) → a ≡ b → LeadsTo asked st a r st2 replied → LeadsTo asked st b r st2 replied
  other_state (Some number) st a b r st2 replied same step = step
  other_state None st a b r st2 replied same step = (step.0 ∙ same, step.1)

  alone : ReadsAlone tracked (AnswersFirst tracked after reply)
  alone st call m n st2 replied in_range bytes others agree =
      let same = carries.alone st call m n agree in
      let asked = number_asked (tracked st) call in
      (other_state asked st (after st call m) (after st call n) (reply st call) st2 replied same, other_state asked st (after st call n) (after st call m) (reply st call) st2 replied (sym same))

  tracked_by : (asked : Option ℤ) (st : S) (call : Call) (m : List Segment) (st2 : S) (replied : Replied) → ((number : ℤ) → asked ≡ Some number → tracked_after (tracked st) call m ≡ tracked st)
      → LeadsTo asked st (after st call m) (reply st call) st2 replied → tracked st2 ≡ tracked_after (tracked st) call m
  tracked_by (Some number) st call m st2 replied same step = ap tracked (step.0) ∙ sym (same number refl)
  tracked_by None st call m st2 replied same step = ap tracked (step.0) ∙ carries.table st call m

  follows : Follows tracked (AnswersFirst tracked after reply)
  follows st call m st2 replied in_range bytes step =
      tracked_by (number_asked (tracked st) call) st call m st2 replied (tracked_after-asked (tracked st) call m) step

  answers : Answers tracked (AnswersFirst tracked after reply)
  answers st call m number st2 replied in_range bytes asked =
      let P : Option ℤ → Type 0 = λ o. LeadsTo o st (after st call m) (reply st call) st2 replied in
      (λ step. subst P asked step, λ step. subst P (sym asked) step)

  replies : Replies tracked (AnswersFirst tracked after reply)
  replies st call m st2 replied in_range bytes unanswered step =
      let P : Option ℤ → Type 0 = λ o. LeadsTo o st (after st call m) (reply st call) st2 replied in
      let led : LeadsTo None st (after st call m) (reply st call) st2 replied = subst P (number_asked-unanswered (tracked st) call unanswered) step in
      led.1 ∙ carries.silent st call unanswered

  -- a driver that answers gets of tracked state first is one, whatever else it does by functions that keep these three facts
  pub answers_first_is_driver : IsDriver tracked (AnswersFirst tracked after reply)
  answers_first_is_driver = record { reads_alone = alone; follows = follows; answers = answers; replies = replies }

answer_of-unanswered : (st : Counter) (call : Call) → is_answering call ≡ false → answer_of st call ≡ Nothing
unfolding is_answering
answer_of-unanswered st GetError h = absurd (true≢false h)
answer_of-unanswered st (GetIntegerv pname params) h = absurd (true≢false h)
answer_of-unanswered st _ h = refl

counter_reply-unanswered : (fault : Option GlError) (st : Counter) (call : Call) → is_answering call ≡ false → counter_reply fault st call ≡ Nothing
counter_reply-unanswered (Some error) st call h = refl
counter_reply-unanswered None st call h = answer_of-unanswered st call h

counter_after-agrees : (st : Counter) (call : Call) (m n : List Segment) → AgreesOn m n (reads_of st.tracked call m) → counter_after st call m ≡ counter_after st call n
counter_after-agrees st call m n agree =
    let P : Tracked → Counter = λ tracked. record { tracked = tracked; recorded = recorded_after (fault_of st.tracked call) st.recorded call; clears = clears_after (fault_of st.tracked call) st.clears call } in
    ap P (tracked_after-agrees st.tracked call m n agree)

counter_carries_out : CarriesOut tracked_of counter_after counter_reply_to
counter_carries_out = record {
  alone = λ st call m n agree. counter_after-agrees st call m n agree;
  table = λ st call memory. refl;
  silent = λ st call unanswered. counter_reply-unanswered (fault_of st.tracked call) st call unanswered;
}

-- the relation of this driver keeps the laws
pub counter_is_driver : IsDriver tracked_of CounterSteps
counter_is_driver = answers_first_is_driver tracked_of counter_after counter_reply_to counter_carries_out
