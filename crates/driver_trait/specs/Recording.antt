-- The laws of drivers, as the test driver keeps them.
use Rattle.std.proofs.Common.{◌≡◌, ℤ, List, [], ◌∷◌, ◌++◌, Option, Some, None, refl, sym, ap, ◌∙◌}
use Rattle.gl_words.specs.declared.call.Call.{Call}
use Rattle.gl_memory.specs.Segment.{Segment}
use Rattle.gl_tracked.specs.declared.tracked.Tracked.{Tracked}
use Rattle.gl_tracked.specs.Reads.{AgreesOn}
use Rattle.gl_tracked.specs.Step.{tracked_after, number_asked, reads_of}
use Rattle.gl_tracked.proofs.Stepping.{tracked_after-asked, number_asked-unanswered}
use Rattle.gl_tracked.proofs.Agreeing.{tracked_after-agrees}
use Rattle.driver_trait.specs.Driver.{IsDriver, ReadsAlone, Follows, Answers, Replies}
use Rattle.driver_trait.specs.Recorder.{RecorderView, RecorderSteps, recorded_unless, recorded_after, number_replied, recorder_reply}

module _ (st : RecorderView) (call : Call) where
  recorded_unless-tracked : (asked : Option ℤ) (memory : List Segment) → ((number : ℤ) → asked ≡ Some number → tracked_after st.tracked call memory ≡ st.tracked)
      → (recorded_unless asked st call memory).tracked ≡ tracked_after st.tracked call memory
  recorded_unless-tracked (Some number) memory same = sym (same number refl)
  recorded_unless-tracked None memory same = refl

  recorded_after-tracked : (memory : List Segment) → (recorded_after st call memory).tracked ≡ tracked_after st.tracked call memory
  unfolding recorded_after
  recorded_after-tracked memory = recorded_unless-tracked (number_asked st.tracked call) memory (tracked_after-asked st.tracked call memory)

  module _ (m n : List Segment) (agree : AgreesOn m n (reads_of st.tracked call m)) where
    recorded_unless-agrees : (asked : Option ℤ) → recorded_unless asked st call m ≡ recorded_unless asked st call n
    recorded_unless-agrees (Some number) = refl
    recorded_unless-agrees None =
        let grown : Tracked → RecorderView = λ tracked. record { tracked = tracked; calls = st.calls ++ call ∷ [] } in
        ap grown (tracked_after-agrees st.tracked call m n agree)

    recorded_after-agrees : recorded_after st call m ≡ recorded_after st call n
    unfolding recorded_after
    recorded_after-agrees = recorded_unless-agrees (number_asked st.tracked call)

  recorded_after-asked : (memory : List Segment) (number : ℤ) → number_asked st.tracked call ≡ Some number → recorded_after st call memory ≡ st
  unfolding recorded_after
  recorded_after-asked memory number asked = ap (λ (o : Option ℤ). recorded_unless o st call memory) asked

-- the recorder looks at memory for names that are deleted alone
alone : ReadsAlone (λ (st : RecorderView). st.tracked) RecorderSteps
alone st call m n st2 reply in_range bytes others agree =
    let same = recorded_after-agrees st call m n agree in
    (λ step. (step.0 ∙ same, step.1), λ step. (step.0 ∙ sym same, step.1))

follows : Follows (λ (st : RecorderView). st.tracked) RecorderSteps
follows st call m st2 reply in_range bytes step = ap (λ (r : RecorderView). r.tracked) (step.0) ∙ recorded_after-tracked st call m

answers : Answers (λ (st : RecorderView). st.tracked) RecorderSteps
unfolding recorder_reply
answers st call m number st2 reply in_range bytes asked =
    let same = recorded_after-asked st call m number asked in
    let given = ap number_replied asked in
    (λ step. (step.0 ∙ same, step.1 ∙ given), λ step. (step.0 ∙ sym same, step.1 ∙ sym given))

replies : Replies (λ (st : RecorderView). st.tracked) RecorderSteps
unfolding recorder_reply
replies st call m st2 reply in_range bytes unanswered step = step.1 ∙ ap number_replied (number_asked-unanswered st.tracked call unanswered)

-- the relation of the recorder keeps the laws
pub recorder_is_driver : IsDriver (λ (st : RecorderView). st.tracked) RecorderSteps
recorder_is_driver = record { reads_alone = alone; follows = follows; answers = answers; replies = replies }
