-- What the driver is and does; own, but for the recorded error. It isn't OpenGL ES: no pixel stands here, and beside tracked state it answers GetError and one get alone.
use Rattle.std.specs.Prelude.{ℕ, ◌+◌, ◌==◌, nat_lt, ℤ, pos, if◌then◌else◌, List, [], ◌∷◌, Option, Some, None}
use Rattle.gl_words.specs.declared.call.Call.{Call}
use Rattle.gl_words.specs.declared.call.Call.TheVariants.{Clear, GetError, GetIntegerv}
use Rattle.gl_words.specs.declared.error.GlError.{GlError}
use Rattle.gl_words.specs.GlError.{code_of}
use Rattle.gl_memory.specs.Segment.{Segment}
use Rattle.gl_tracked.specs.declared.tracked.Tracked.{Tracked}
use Rattle.gl_tracked.specs.Fault.{fault_of}
use Rattle.gl_tracked.specs.Step.{tracked_after}
use Rattle.gl_tracked.specs.Tracked.{first_tracked}
use Rattle.driver_trait.specs.Driver.{Steps}
use Rattle.driver_trait.specs.Reply.{Replied, Nothing, Numbers}
use Rattle.example_driver.specs.declared.counter.Counter.{Counter}
use Rattle.example_driver.specs.AnswersFirst.{AnswersFirst}

-- the driver of a new context; own
abbrev pub first_counter : Counter
first_counter = record { tracked = first_tracked; recorded = None; clears = 0 }

-- the tracked part; own
abbrev pub tracked_of : Counter → Tracked
tracked_of st = st.tracked

-- the recorded error after a call with this error, or none: the first one stays until GetError asks for it; section 2.5
abbrev pub recorded_after : Option GlError → Option GlError → Call → Option GlError
recorded_after (Some error) None call = Some error
recorded_after (Some error) (Some first) call = Some first
recorded_after None recorded GetError = None
recorded_after None recorded _ = recorded

-- the count after a call with this error, or none: one more for a Clear without an error, up to 2^31 - 1; own
abbrev pub clears_after : Option GlError → ℕ → Call → ℕ
clears_after (Some error) clears call = clears
clears_after None clears (Clear mask) = if nat_lt clears 0x7FFFFFFF then clears + 1 else clears
clears_after None clears _ = clears

-- the driver after a call that asks for no tracked state, on a memory; own
abbrev pub counter_after : Counter → Call → List Segment → Counter
counter_after st call memory = record {
  tracked = tracked_after st.tracked call memory;
  recorded = recorded_after (fault_of st.tracked call) st.recorded call;
  clears = clears_after (fault_of st.tracked call) st.clears call;
}

-- the number of a recorded error, 0 where there is none; section 2.5
abbrev pub code_of_error : Option GlError → ℤ
code_of_error None = pos 0
code_of_error (Some error) = pos (code_of error)

-- what a call without an error that asks for no tracked state replies: GetError the recorded error, GetIntegerv of MAX_TEXTURE_SIZE the count; own
abbrev pub answer_of : Counter → Call → Replied
answer_of st GetError = Numbers (code_of_error st.recorded ∷ [])
answer_of st (GetIntegerv pname params) = if pname == 0x0D33 then Numbers (pos st.clears ∷ []) else Nothing
answer_of st _ = Nothing

-- what such a call replies with this error, or none: nothing where it has one; section 2.5
abbrev pub counter_reply : Option GlError → Counter → Call → Replied
counter_reply (Some error) st call = Nothing
counter_reply None st call = answer_of st call

-- what it replies to a call that asks for no tracked state; own
abbrev pub counter_reply_to : Counter → Call → Replied
counter_reply_to st call = counter_reply (fault_of st.tracked call) st call

-- the relation of the driver: gets of tracked state are answered first, and every other call is carried out so; own
abbrev pub CounterSteps : Steps Counter
CounterSteps = AnswersFirst tracked_of counter_after counter_reply_to
