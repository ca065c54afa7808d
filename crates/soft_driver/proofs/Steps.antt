-- A step that was taken part by part, each with the error that the plan has, is the step of the call.
use Rattle.std.proofs.Common.{◌≡◌, List, Option, sym, ap, ◌∙◌}
use Rattle.gl_words.specs.declared.call.Call.{Call}
use Rattle.gl_words.specs.declared.error.GlError.{GlError}
use Rattle.gl_memory.specs.Segment.{Segment}
use Rattle.gl_objects.specs.declared.reply.EventReply.{EventReply}
use Rattle.gl_objects.specs.View.{ObjectsView}
use Rattle.fragment_ops.specs.Frame.{FrameView}
use Rattle.gl_tracked.specs.Fault.{fault_of}
use Rattle.driver_trait.specs.Reply.{Replied}
use Rattle.gl_state.specs.Event.{event_by}
use Rattle.gl_state.specs.Private.{PrivateView}
use Rattle.gl_state.specs.Step.{private_after}
use Rattle.soft_driver.specs.Own.{event_of, frame_after, given_back, objects_changed, own_reply, own_step, own_step_by}
use Rattle.soft_driver.specs.Renderer.{SoftView, soft_after, soft_reply}

module _ (st : SoftView) (call : Call) (memory : List Segment) (fault : Option GlError) (planned : fault_of st.own.state.tracked call ≡ fault) where
  -- the renderer after a call with this error, each part by its own definition
  abbrev Parts : Option GlError → SoftView
  Parts f = record {
    own = (own_step_by f st.own call memory st.objects).own;
    objects = objects_changed st.objects (event_by f st.own.state call memory);
  }

  after-parts : Parts fault ≡ soft_after st call memory
  unfolding soft_after own_step event_of
  after-parts = ap Parts (sym planned)

  reply-parts : own_reply fault st.own call (given_back st.objects (event_by fault st.own.state call memory)) ≡ soft_reply st call memory
  unfolding soft_reply own_step
  reply-parts = ap (λ (f : Option GlError). own_reply f st.own call (given_back st.objects (event_by f st.own.state call memory))) (sym planned)

  pub event_of-planned : event_of st.own call memory ≡ event_by fault st.own.state call memory
  unfolding event_of
  event_of-planned = ap (λ (f : Option GlError). event_by f st.own.state call memory) planned

  -- what the parts make together, where the event gave this back
  pub soft_stepped : (back : EventReply) (state : PrivateView) (frame : FrameView) (objects : ObjectsView) → back ≡ given_back st.objects (event_by fault st.own.state call memory)
      → state ≡ private_after fault st.own.state call memory back.fault → frame ≡ frame_after fault st.own.state st.own.frame st.objects call memory
      → objects ≡ objects_changed st.objects (event_by fault st.own.state call memory)
      → record { own = record { state = state; frame = frame }; objects = objects } ≡ soft_after st call memory
  soft_stepped back state frame objects given stepped drawn changed =
      let P : PrivateView → SoftView = λ p. record { own = record { state = p; frame = frame }; objects = objects } in
      let B : EventReply → SoftView = λ b. record { own = record { state = private_after fault st.own.state call memory b.fault; frame = frame }; objects = objects } in
      let end = private_after fault st.own.state call memory (given_back st.objects (event_by fault st.own.state call memory)).fault in
      let F : FrameView → SoftView = λ f. record { own = record { state = end; frame = f }; objects = objects } in
      let O : ObjectsView → SoftView = λ o. record { own = record { state = end; frame = frame_after fault st.own.state st.own.frame st.objects call memory }; objects = o } in
      ap P stepped ∙ ap B given ∙ ap F drawn ∙ ap O changed ∙ after-parts

  pub soft_replied : (back : EventReply) (reply : Replied) → back ≡ given_back st.objects (event_by fault st.own.state call memory) → reply ≡ own_reply fault st.own call back → reply ≡ soft_reply st call memory
  soft_replied back reply given replies = replies ∙ ap (own_reply fault st.own call) given ∙ reply-parts
