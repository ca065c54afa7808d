-- The own state of a context, and what a call does to it beside the objects that contexts share. What an event does to these stands in gl_objects; no batch, slot, class or front stands here.
use Rattle.std.specs.Prelude.{◌≡◌, ℕ, ℤ, pos, negsuc, Bool, true, false, not, ◌==◌, nat_lt, bit_and, List, Option, Some, None}
use Rattle.gl_words.specs.declared.call.Call.{Call}
use Rattle.gl_words.specs.declared.call.Call.TheVariants.{BindBuffer, BindTexture, BufferData, BufferSubData, Clear, DeleteBuffers, DeleteTextures, DrawArrays, DrawElements, GenBuffers, GenTextures, ReadPixels, TexImage2D, TexSubImage2D}
use Rattle.gl_words.specs.declared.error.GlError.{GlError}
use Rattle.gl_memory.specs.ClientMemory.{memory_of}
use Rattle.gl_memory.specs.Segment.{Segment}
use Rattle.gl_objects.specs.declared.event.Event.{Event}
use Rattle.gl_objects.specs.declared.reply.EventReply.{EventReply}
use Rattle.gl_objects.specs.Step.{reply_of, step}
use Rattle.gl_objects.specs.Store.{store_in}
use Rattle.gl_objects.specs.View.{ObjectsView}
use Rattle.fragment_ops.specs.Cell.{cell_after_clear}
use Rattle.fragment_ops.specs.Frame.{FrameView, first_frame, frame_changed}
use Rattle.gl_tracked.specs.Fault.{fault_of}
use Rattle.triangle_draw.specs.declared.elements.Elements.TheVariants.{From, Indexed}
use Rattle.triangle_draw.specs.Draw.{cell_after_draw}
use Rattle.triangle_draw.specs.Elements.{place_in}
use Rattle.vertex_stage.specs.Number.{memories_with}
use Rattle.driver_trait.specs.Reply.{Replied, Nothing, Bytes}
use Rattle.gl_state.specs.Event.{event_by, no_reply}
use Rattle.gl_state.specs.Private.{PrivateView, first_private}
use Rattle.gl_state.specs.Settings.{fragment_state_of}
use Rattle.gl_state.specs.Step.{list_length, private_after, private_reply}
use Rattle.soft_driver.specs.Drawing.{drawing_of}
use Rattle.soft_driver.specs.Pixels.{bytes_read}

-- the own state of a context: its private state and its frame; own
pub record Own : Type 0 where
  pub state : PrivateView
  pub frame : FrameView

-- the frame has the sides that the private state tells; own
pub record AreTied (state : PrivateView) (frame : FrameView) : Type 0 where
  pub width : frame.width ≡ state.width
  pub height : frame.height ≡ state.height

-- a context of this number and these sides at the start; section 2.5, the frame's start own
unfoldable pub first_own : ℕ → ℕ → ℕ → Own
first_own context width height = record { state = first_private context width height; frame = first_frame width height }

-- a mask has the bit of the colour buffer; section 4.2.3
abbrev pub clears_colour : ℕ → Bool
clears_colour mask = bit_and mask 0x4000 == 0x4000

-- a mask has the bit of the depth buffer; section 4.2.3
abbrev pub clears_depth : ℕ → Bool
clears_depth mask = bit_and mask 0x100 == 0x100

-- a number that isn't below 0, and 0 for all others; own
abbrev pub number_of : ℤ → ℕ
number_of (pos number) = number
number_of (negsuc below) = 0

-- the memories that a draw reads: client memory, and the stores of buffers by their names, which are zeros where there is no buffer, and past a store's end; sections 2.8 and 2.9, the zeros own
unfoldable pub memories_of : ObjectsView → List Segment → ℕ → List Segment
memories_of objects memory = memories_with memory (λ name. memory_of (store_in objects.buffers name))

-- the frame after a call with this error, or none, on a memory and objects: Clear clears what its mask has a bit of, DrawArrays draws the elements from the first on, DrawElements those that its indices name, in the buffer that is bound for them or in client memory, by the textures that are objects, and no other call draws; sections 2.8, 2.9, 3.7.14 and 4.2.3
abbrev pub frame_after : Option GlError → PrivateView → FrameView → ObjectsView → Call → List Segment → FrameView
frame_after (Some error) state frame objects call memory = frame
frame_after None state frame objects (Clear mask) memory =
    frame_changed (λ place. cell_after_clear place (fragment_state_of state.settings) (clears_colour mask) (clears_depth mask)) frame
frame_after None state frame objects (DrawArrays mode first count) memory =
    let memories = memories_of objects memory in
    frame_changed (cell_after_draw (drawing_of state objects) memories mode (place_in (From (number_of first)) memories) (number_of count)) frame
frame_after None state frame objects (DrawElements mode count kind indices) memory =
    let memories = memories_of objects memory in
    frame_changed (cell_after_draw (drawing_of state objects) memories mode (place_in (Indexed state.tracked.element_buffer kind indices) memories) (number_of count)) frame
frame_after None state frame objects _ memory = frame

-- what a call replies with this error, or none, its event having given this back: ReadPixels the bytes of its pixels, all others what the private state shows; sections 2.5, 4.3.1 and 6.1
abbrev pub own_reply : Option GlError → Own → Call → EventReply → Replied
own_reply (Some error) own call event = Nothing
own_reply None own (ReadPixels x y width height format kind pixels) event = Bytes (bytes_read own.frame x y (number_of width) (number_of height))
own_reply None own call event = private_reply None own.state call event

-- what objects give back to an event, and nothing where there is none; own
abbrev pub given_back : ObjectsView → Option Event → EventReply
given_back objects None = no_reply
given_back objects (Some event) = reply_of objects event

-- the objects after an event, and as they were where there is none; own
abbrev pub objects_changed : ObjectsView → Option Event → ObjectsView
objects_changed objects None = objects
objects_changed objects (Some event) = step objects event

-- what a step gives: the own state after a call, and its reply; own
pub record Stepped : Type 0 where
  pub own : Own
  pub reply : Replied

-- the step of a call with this error, or none, whose event gave this back, on a memory and objects as they stood before it: each part by its own definition; sections 2.5 and 4.2.3
abbrev pub own_step_with : Option GlError → EventReply → Own → Call → List Segment → ObjectsView → Stepped
own_step_with fault back own call memory objects = record {
  own = record { state = private_after fault own.state call memory back.fault; frame = frame_after fault own.state own.frame objects call memory };
  reply = own_reply fault own call back;
}

-- the step of a call with this error, or none, on a memory and objects: its event is asked of the objects first; own
abbrev pub own_step_by : Option GlError → Own → Call → List Segment → ObjectsView → Stepped
own_step_by fault own call memory objects = own_step_with fault (given_back objects (event_by fault own.state call memory)) own call memory objects

-- the event of a call on a memory, if it makes one: the error is that of the call; section 2.5
unfoldable pub event_of : Own → Call → List Segment → Option Event
event_of own call memory = event_by (fault_of own.state.tracked call) own.state call memory

-- the step of a call on a memory and objects: the error is that of the call; section 2.5
unfoldable pub own_step : Own → Call → List Segment → ObjectsView → Stepped
own_step own call memory objects = own_step_by (fault_of own.state.tracked call) own call memory objects

-- a call with this error, or none, may ask for memory: for a list that it replies, and for an event with bytes, an image or names, or that makes an object or gives names; own
abbrev pub asks_memory : Option GlError → Call → Bool
asks_memory (Some error) call = false
asks_memory None (BindBuffer target buffer) = not (buffer == 0)
asks_memory None (BindTexture target texture) = not (texture == 0)
asks_memory None (BufferData target size source usage) = true
asks_memory None (BufferSubData target offset size source) = true
asks_memory None (DeleteBuffers n names) = true
asks_memory None (DeleteTextures n names) = true
asks_memory None (GenBuffers n names) = true
asks_memory None (GenTextures n names) = true
asks_memory None (ReadPixels x y width height format kind pixels) = true
asks_memory None (TexImage2D target level internalformat width height border format kind pixels) = true
asks_memory None (TexSubImage2D target level xoffset yoffset width height format kind pixels) = true
asks_memory None call = nat_lt 0 (list_length call)
