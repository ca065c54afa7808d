-- What the test driver becomes by a call: it answers from tracked state and stays, or keeps the call.
use Rattle.std.proofs.Common.{◌≡◌, sym, ap, ◌∙◌, ℤ, List, [], ◌∷◌, ◌++◌, Option, Some, None}
use Rattle.gl_words.specs.declared.call.Call.{Call}
use Rattle.gl_memory.specs.Segment.{Segment}
use Rattle.gl_tracked.specs.declared.tracked.Tracked.{Tracked}
use Rattle.driver_trait.specs.Reply.{Nothing, Numbers}
use Rattle.gl_tracked.specs.Step.{tracked_after, number_asked}
use Rattle.driver_trait.specs.Recorder.{RecorderView, recorded_unless, recorded_after, number_replied, recorder_reply}

module _ (before inside : RecorderView) (call : Call) where
  asked_before : (asked : Option ℤ) → inside ≡ before → number_asked inside.tracked call ≡ asked → number_asked before.tracked call ≡ asked
  asked_before asked same is = sym (ap (λ (r : RecorderView). number_asked r.tracked call) same) ∙ is

  reply_by : (asked : Option ℤ) → number_asked before.tracked call ≡ asked → number_replied asked ≡ recorder_reply before call
  unfolding recorder_reply
  reply_by asked is = sym (ap number_replied is)

  step_by : (asked : Option ℤ) (memory : List Segment) → number_asked before.tracked call ≡ asked → recorded_unless asked before call memory ≡ recorded_after before call memory
  unfolding recorded_after
  step_by asked memory is = sym (ap (λ (o : Option ℤ). recorded_unless o before call memory) is)

  -- a number that is asked for is the reply, and nothing changes
  pub answered_by : (given number : ℤ) (memory : List Segment) → inside ≡ before → number_asked inside.tracked call ≡ Some number → given ≡ number
      → (before ≡ recorded_after before call memory) × (Numbers (given ∷ []) ≡ recorder_reply before call)
  answered_by given number memory same is gives =
      let asked = asked_before (Some number) same is in
      (step_by (Some number) memory asked, ap (λ (n : ℤ). Numbers (n ∷ [])) gives ∙ reply_by (Some number) asked)

  -- where nothing is asked for, nothing is the reply
  pub unanswered_by : inside ≡ before → number_asked inside.tracked call ≡ None → Nothing ≡ recorder_reply before call
  unanswered_by same none = reply_by None (asked_before None same none)

  -- where nothing is asked for, a step of the parts is the step of the whole
  pub recorded_by : (tracked : Tracked) (calls : List Call) (memory : List Segment)
      → inside ≡ before → number_asked inside.tracked call ≡ None → tracked ≡ tracked_after inside.tracked call memory → calls ≡ inside.calls ++ call ∷ []
      → record { tracked = tracked; calls = calls } ≡ recorded_after before call memory
  recorded_by tracked calls memory same none stepped grown =
      let P : Tracked → RecorderView = λ t. record { tracked = t; calls = calls } in
      let Q : List Call → RecorderView = λ l. record { tracked = tracked_after inside.tracked call memory; calls = l } in
      let R : RecorderView → RecorderView = λ r. record { tracked = tracked_after r.tracked call memory; calls = r.calls ++ call ∷ [] } in
      ap P stepped ∙ ap Q grown ∙ ap R same ∙ step_by None memory (asked_before None same none)
