-- The error of a call, and the recorded one behind it; sections 2.5 and 2.9. What is recorded by a step stands in Step.antt of gl_state.
use Rattle.std.specs.Prelude.{◌≡◌, ℤ, pos, if◌then◌else◌, List, [], ◌∷◌, Option, Some, None}
use Rattle.std.specs.Ordering.{int_eq}
use Rattle.gl_words.specs.declared.call.Call.{Call}
use Rattle.gl_words.specs.declared.call.Call.TheVariants.{GetError}
use Rattle.gl_words.specs.declared.error.GlError.{GlError}
use Rattle.gl_words.specs.declared.error.GlError.TheVariants.{InvalidEnum, InvalidValue, InvalidOperation, StackOverflow, StackUnderflow, OutOfMemory}
use Rattle.gl_memory.specs.Segment.{Segment}
use Rattle.gl_objects.specs.View.{ObjectsView}
use Rattle.gl_tracked.specs.Fault.{fault_of}
use Rattle.driver_trait.specs.Reply.{Replied, Numbers}
use Rattle.gl_state.specs.Step.{code_of_error, error_set_by, recorded}
use Rattle.soft_driver.specs.Own.{Own, event_of, given_back, own_step}
use Rattle.soft_driver.specs.Renderer.{SoftView}
use Rattle.script_trace.specs.declared.entry.Recorded.{Recorded}

-- the error with a number, if one has it; section 2.5
unfoldable pub error_numbered : ℤ → Option GlError
error_numbered number =
    if int_eq number (pos 0x0500) then Some InvalidEnum else (
    if int_eq number (pos 0x0501) then Some InvalidValue else (
    if int_eq number (pos 0x0502) then Some InvalidOperation else (
    if int_eq number (pos 0x0503) then Some StackOverflow else (
    if int_eq number (pos 0x0504) then Some StackUnderflow else (
    if int_eq number (pos 0x0505) then Some OutOfMemory else None)))))

-- the first of two errors, where there is one; own
abbrev pub first_error : Option GlError → Option GlError → Option GlError
first_error None second = second
first_error (Some first) second = Some first

-- the error of a call on a memory and objects, if it has one: its own, or else what its event is refused for; sections 2.5 and 2.9
abbrev pub error_of : Own → ObjectsView → Call → List Segment → Option GlError
error_of own objects call memory = first_error (fault_of own.state.tracked call) (given_back objects (event_of own call memory)).fault

-- the recorded error behind a call with this error, or none; section 2.5
abbrev pub error_after : Option GlError → Call → Option GlError → Option GlError
error_after before call None = error_set_by before call
error_after before call (Some error) = recorded before error

-- the error of a call, if it has one, beside the one that is recorded already; section 2.5
abbrev pub recorded_beside : Option GlError → Option GlError → Option Recorded
recorded_beside before None = None
recorded_beside before (Some error) = Some (record { error = error; before = before })

-- an own state with another recorded error; own
abbrev pub with_error : Own → Option GlError → Own
with_error own error = record own { state = record own.state { error = error } }

-- the renderer with another recorded error; own
abbrev pub soft_with_error : SoftView → Option GlError → SoftView
soft_with_error soft error = record soft { own = with_error soft.own error }

-- what a call replies where this is recorded, given what it replies where nothing is: GetError tells it; section 2.5
abbrev pub reply_beside : Option GlError → Call → Replied → Replied
reply_beside recorded GetError reply = Numbers (pos (code_of_error recorded) ∷ [])
reply_beside recorded _ reply = reply

-- the recorded error behind a step is the one before it with the error of the call, whatever the call; own
abbrev pub ErrorLaw : Type 0
ErrorLaw = (own : Own) (objects : ObjectsView) (call : Call) (memory : List Segment)
    → (own_step own call memory objects).own.state.error ≡ error_after own.state.error call (error_of own objects call memory)
