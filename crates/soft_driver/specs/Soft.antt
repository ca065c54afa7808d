-- That the relation of the renderer keeps the laws of drivers.
use Rattle.std.proofs.Common.{◌≡◌, ℤ, false, List, [], ◌∷◌, Option, Some, None, refl, sym, ap, ◌∙◌}
use Rattle.std.proofs.lemmas.Bool.{true≢false}
use Rattle.std.proofs.lemmas.Option.{none-some}
use Rattle.gl_words.specs.Call.{is_answering}
use Rattle.gl_words.specs.declared.call.Call.{Call}
use Rattle.gl_words.specs.declared.call.Call.TheVariants.{Clear, DrawArrays, DrawElements, GetIntegerv, GetPointerv, IsEnabled, ReadPixels}
use Rattle.gl_words.specs.declared.error.GlError.{GlError}
use Rattle.gl_memory.specs.Segment.{Segment}
use Rattle.gl_objects.specs.declared.event.Event.{Event}
use Rattle.gl_objects.specs.declared.reply.EventReply.{EventReply}
use Rattle.gl_objects.specs.View.{ObjectsView}
use Rattle.fragment_ops.specs.Frame.{FrameView}
use Rattle.gl_tracked.specs.Fault.{fault_of}
use Rattle.gl_tracked.specs.Reads.{AgreesOn}
use Rattle.gl_tracked.specs.Step.{number_asked, reads_of, tracked_after}
use Rattle.gl_tracked.proofs.Asking.{fault_of-asked}
use Rattle.driver_trait.specs.Driver.{IsDriver, ReadsAlone, Follows, Answers, Replies}
use Rattle.driver_trait.specs.Reply.{Replied, Nothing, Numbers}
use Rattle.gl_state.specs.Event.{ask_of, event_by, no_reply, use_of}
use Rattle.gl_state.specs.Private.{PrivateView}
use Rattle.gl_state.specs.Step.{private_after, private_reply}
use Rattle.gl_state.proofs.Events.{event-reads}
use Rattle.gl_state.proofs.Stepping.{tracked_of-private_after, private_after-asked, private_after-reads, private_reply-asked, private_reply-unanswered}
use Rattle.soft_driver.specs.Own.{Own, Stepped, event_of, frame_after, given_back, objects_changed, own_reply, own_step, own_step_by, own_step_with}
use Rattle.soft_driver.specs.Renderer.{SoftSteps, SoftView, soft_after, soft_reply, soft_tracked}
use Rattle.soft_driver.specs.Agreements.{frame_after-reads}

-- a call that asks for a number of tracked state makes no event
pub event_by-asked : (p : PrivateView) (call : Call) (memory : List Segment) (number : ℤ) (fault : Option GlError) → number_asked p.tracked call ≡ Some number → event_by fault p call memory ≡ None
unfolding number_asked ask_of use_of
event_by-asked p call memory number (Some error) asked = refl
event_by-asked p (GetIntegerv pname params) memory number None asked = refl
event_by-asked p (GetPointerv pname params) memory number None asked = refl
event_by-asked p (IsEnabled cap) memory number None asked = refl
event_by-asked p _ memory number None asked = absurd (none-some number asked)

-- what a step gives, by its parts
abbrev stepped_at : PrivateView → FrameView → Replied → Stepped
stepped_at state frame reply = record { own = record { state = state; frame = frame }; reply = reply }

module _ (own : Own) (objects : ObjectsView) where
  module _ (call : Call) (m n : List Segment) (agree : AgreesOn m n (reads_of own.state.tracked call m)) where
    event_of-reads : event_of own call m ≡ event_of own call n
    unfolding event_of
    event_of-reads = event-reads own.state call m n agree

    step_with-reads : (back : EventReply) → own_step_with (fault_of own.state.tracked call) back own call m objects ≡ own_step_with (fault_of own.state.tracked call) back own call n objects
    step_with-reads back =
        let fault = fault_of own.state.tracked call in
        ap (λ (state : PrivateView). stepped_at state (frame_after fault own.state own.frame objects call m) (own_reply fault own call back)) (private_after-reads own.state call m n back.fault agree)
        ∙ ap (λ (frame : FrameView). stepped_at (private_after fault own.state call n back.fault) frame (own_reply fault own call back)) (frame_after-reads m n objects own.state own.frame call agree)

    -- the step is the same on memories that agree where the call reads
    own_step-reads : own_step own call m objects ≡ own_step own call n objects
    unfolding own_step
    own_step-reads =
        let fault = fault_of own.state.tracked call in
        ap (λ (event : Option Event). own_step_with fault (given_back objects event) own call m objects) (event-reads own.state call m n agree)
        ∙ step_with-reads (given_back objects (event_by fault own.state call n))

  frame_after-asked : (call : Call) (number : ℤ) (m : List Segment) → number_asked own.state.tracked call ≡ Some number → frame_after None own.state own.frame objects call m ≡ own.frame
  unfolding number_asked
  frame_after-asked (Clear mask) number m asked = absurd (none-some number asked)
  frame_after-asked (DrawArrays mode first count) number m asked = absurd (none-some number asked)
  frame_after-asked (DrawElements mode count kind indices) number m asked = absurd (none-some number asked)
  frame_after-asked _ number m asked = refl

  own_reply-asked : (call : Call) (number : ℤ) (back : EventReply) → number_asked own.state.tracked call ≡ Some number → own_reply None own call back ≡ private_reply None own.state call back
  unfolding number_asked
  own_reply-asked (ReadPixels x y width height format kind pixels) number back asked = absurd (none-some number asked)
  own_reply-asked _ number back asked = refl

  -- a call that asks for a number of tracked state has no error and no event, draws nothing, changes nothing, and is answered by that number
  own_step-asked : (call : Call) (number : ℤ) (m : List Segment) → number_asked own.state.tracked call ≡ Some number → own_step own call m objects ≡ record { own = own; reply = Numbers (number ∷ []) }
  unfolding own_step
  own_step-asked call number m asked =
      ap (λ (fault : Option GlError). own_step_by fault own call m objects) (fault_of-asked own.state.tracked call number asked)
      ∙ ap (λ (event : Option Event). own_step_with None (given_back objects event) own call m objects) (event_by-asked own.state call m number None asked)
      ∙ ap (λ (state : PrivateView). stepped_at state (frame_after None own.state own.frame objects call m) (own_reply None own call no_reply)) (private_after-asked own.state call m number asked)
      ∙ ap (λ (frame : FrameView). stepped_at own.state frame (own_reply None own call no_reply)) (frame_after-asked call number m asked)
      ∙ ap (λ (reply : Replied). stepped_at own.state own.frame reply) (own_reply-asked call number no_reply asked ∙ private_reply-asked own.state no_reply call number asked)

  event_of-asked : (call : Call) (number : ℤ) (m : List Segment) → number_asked own.state.tracked call ≡ Some number → event_of own call m ≡ None
  unfolding event_of
  event_of-asked call number m asked = event_by-asked own.state call m number (fault_of own.state.tracked call) asked

  own_reply-unanswered : (fault : Option GlError) (call : Call) (back : EventReply) → is_answering call ≡ false → own_reply fault own call back ≡ Nothing
  unfolding is_answering
  own_reply-unanswered (Some error) call back h = refl
  own_reply-unanswered None (ReadPixels x y width height format kind pixels) back h = absurd (true≢false h)
  own_reply-unanswered None call back h = private_reply-unanswered own.state back None call h

-- the renderer, by its parts
abbrev soft_at : Own → ObjectsView → SoftView
soft_at own objects = record { own = own; objects = objects }

module _ (st : SoftView) where
  soft_after-reads : (call : Call) (m n : List Segment) → AgreesOn m n (reads_of st.own.state.tracked call m) → soft_after st call m ≡ soft_after st call n
  unfolding soft_after
  soft_after-reads call m n agree =
      ap (λ (s : Stepped). soft_at s.own (objects_changed st.objects (event_of st.own call m))) (own_step-reads st.own st.objects call m n agree)
      ∙ ap (λ (event : Option Event). soft_at (own_step st.own call n st.objects).own (objects_changed st.objects event)) (event_of-reads st.own st.objects call m n agree)

  soft_reply-reads : (call : Call) (m n : List Segment) → AgreesOn m n (reads_of st.own.state.tracked call m) → soft_reply st call m ≡ soft_reply st call n
  unfolding soft_reply
  soft_reply-reads call m n agree = ap (λ (s : Stepped). s.reply) (own_step-reads st.own st.objects call m n agree)

  soft_after-asked : (call : Call) (number : ℤ) (m : List Segment) → number_asked st.own.state.tracked call ≡ Some number → soft_after st call m ≡ st
  unfolding soft_after
  soft_after-asked call number m asked =
      ap (λ (s : Stepped). soft_at s.own (objects_changed st.objects (event_of st.own call m))) (own_step-asked st.own st.objects call number m asked)
      ∙ ap (λ (event : Option Event). soft_at st.own (objects_changed st.objects event)) (event_of-asked st.own st.objects call number m asked)

  soft_reply-asked : (call : Call) (number : ℤ) (m : List Segment) → number_asked st.own.state.tracked call ≡ Some number → soft_reply st call m ≡ Numbers (number ∷ [])
  unfolding soft_reply
  soft_reply-asked call number m asked = ap (λ (s : Stepped). s.reply) (own_step-asked st.own st.objects call number m asked)

  soft_tracked-after : (call : Call) (m : List Segment) → soft_tracked (soft_after st call m) ≡ tracked_after st.own.state.tracked call m
  unfolding soft_after own_step
  soft_tracked-after call m =
      tracked_of-private_after st.own.state call m (given_back st.objects (event_by (fault_of st.own.state.tracked call) st.own.state call m)).fault

  soft_reply-unanswered : (call : Call) (m : List Segment) → is_answering call ≡ false → soft_reply st call m ≡ Nothing
  unfolding soft_reply own_step
  soft_reply-unanswered call m none =
      let fault = fault_of st.own.state.tracked call in
      own_reply-unanswered st.own st.objects fault call (given_back st.objects (event_by fault st.own.state call m)) none

alone : ReadsAlone soft_tracked SoftSteps
alone st call m n st2 reply in_range bytes others agree =
    let after = soft_after-reads st call m n agree in
    let replied = soft_reply-reads st call m n agree in
    (λ step. (step.0 ∙ after, step.1 ∙ replied), λ step. (step.0 ∙ sym after, step.1 ∙ sym replied))

follows : Follows soft_tracked SoftSteps
follows st call m st2 reply in_range bytes step = ap soft_tracked (step.0) ∙ soft_tracked-after st call m

answers : Answers soft_tracked SoftSteps
answers st call m number st2 reply in_range bytes asked =
    let stays = soft_after-asked st call number m asked in
    let gives = soft_reply-asked st call number m asked in
    (λ step. (step.0 ∙ stays, step.1 ∙ gives), λ step. (step.0 ∙ sym stays, step.1 ∙ sym gives))

replies : Replies soft_tracked SoftSteps
replies st call m st2 reply in_range bytes none step = step.1 ∙ soft_reply-unanswered st call m none

-- the relation of the renderer keeps the laws of drivers
pub soft_is_driver : IsDriver soft_tracked SoftSteps
soft_is_driver = record { reads_alone = alone; follows = follows; answers = answers; replies = replies }
