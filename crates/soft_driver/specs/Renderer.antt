-- What the renderer has, and what a call does to it: the own state of its context, and the objects; own. That its relation keeps the laws of drivers stands in Soft.antt.
use Rattle.std.specs.Prelude.{◌≡◌, ℕ, List}
use Rattle.gl_words.specs.declared.call.Call.{Call}
use Rattle.gl_memory.specs.Segment.{Segment}
use Rattle.gl_objects.specs.View.{ObjectsView}
use Rattle.gl_tracked.specs.declared.tracked.Tracked.{Tracked}
use Rattle.driver_trait.specs.Reply.{Replied}
use Rattle.soft_driver.specs.Own.{Own, event_of, first_own, objects_changed, own_step}

-- the own state of a context, and the objects that contexts share; own
pub record SoftView : Type 0 where
  pub own : Own
  pub objects : ObjectsView

-- a context of this number and these sides at the start, beside objects; section 2.5, the frame's start own
abbrev pub first_soft : ℕ → ℕ → ℕ → ObjectsView → SoftView
first_soft context width height objects = record { own = first_own context width height; objects = objects }

-- the tracked part of its state; own
abbrev pub soft_tracked : SoftView → Tracked
soft_tracked st = st.own.state.tracked

-- the renderer after a call on a memory: the own state after its step, and the objects after its event; own
unfoldable pub soft_after : SoftView → Call → List Segment → SoftView
soft_after st call memory = record {
  own = (own_step st.own call memory st.objects).own;
  objects = objects_changed st.objects (event_of st.own call memory);
}

-- what it replies to a call on a memory; own
unfoldable pub soft_reply : SoftView → Call → List Segment → Replied
soft_reply st call memory = (own_step st.own call memory st.objects).reply

-- a call on a memory leads from a state of the renderer to that after it, with its reply; own
abbrev pub SoftSteps : SoftView → Call → List Segment → SoftView → Replied → Type 0
SoftSteps st call memory st2 reply = (st2 ≡ soft_after st call memory) × (reply ≡ soft_reply st call memory)
