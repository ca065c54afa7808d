-- What the test driver is: it keeps the calls that it met, and answers from tracked state alone; own.
use Rattle.std.specs.Prelude.{◌≡◌, ℤ, List, [], ◌∷◌, ◌++◌, Option, Some, None}
use Rattle.gl_words.specs.declared.call.Call.{Call}
use Rattle.gl_memory.specs.Segment.{Segment}
use Rattle.gl_tracked.specs.declared.tracked.Tracked.{Tracked}
use Rattle.gl_tracked.specs.Step.{tracked_after, number_asked}
use Rattle.driver_trait.specs.Reply.{Replied, Nothing, Numbers}

-- the tracked state and the calls met, in order; own
pub record RecorderView : Type 0 where
  pub tracked : Tracked
  pub calls : List Call

-- the recorder after a call that asks for tracked state, and after any other; own
abbrev pub recorded_unless : Option ℤ → RecorderView → Call → List Segment → RecorderView
recorded_unless (Some number) st call memory = st
recorded_unless None st call memory = record { tracked = tracked_after st.tracked call memory; calls = st.calls ++ call ∷ [] }

-- the recorder after a call; own
unfoldable pub recorded_after : RecorderView → Call → List Segment → RecorderView
recorded_after st call memory = recorded_unless (number_asked st.tracked call) st call memory

-- a number as a reply, where there is one; own
abbrev pub number_replied : Option ℤ → Replied
number_replied (Some number) = Numbers (number ∷ [])
number_replied None = Nothing

-- what the recorder replies: the number of tracked state that is asked for, else nothing; own
unfoldable pub recorder_reply : RecorderView → Call → Replied
recorder_reply st call = number_replied (number_asked st.tracked call)

-- a call leads from a state of the recorder to that after it, with its reply; own
abbrev pub RecorderSteps : RecorderView → Call → List Segment → RecorderView → Replied → Type 0
RecorderSteps st call memory st2 reply = (st2 ≡ recorded_after st call memory) × (reply ≡ recorder_reply st call)
