-- Which calls leave the frame, and that none changes its sides.
use Rattle.std.proofs.Common.{◌≡◌, ◌≢◌, ℕ, List, Option, Some, None, refl, sym, ap, ◌∙◌}
use Rattle.gl_words.specs.declared.call.Call.{Call}
use Rattle.gl_words.specs.declared.call.Call.TheVariants.{Clear, DrawArrays, DrawElements}
use Rattle.gl_words.specs.declared.error.GlError.{GlError}
use Rattle.gl_memory.specs.Segment.{Segment}
use Rattle.fragment_ops.specs.Frame.{FrameView, first_frame, frame_changed}
use Rattle.gl_objects.specs.View.{ObjectsView}
use Rattle.gl_tracked.specs.Fault.{fault_of}
use Rattle.gl_tracked.specs.Step.{number_asked}
use Rattle.gl_state.specs.declared.plan.Plan.{Plan}
use Rattle.gl_state.specs.declared.plan.Plan.TheVariants.{Draw}
use Rattle.gl_state.specs.Private.{PrivateView, first_private}
use Rattle.gl_state.specs.Step.{fault_in, plan_found, plan_of, private_after}
use Rattle.gl_state.proofs.Stepping.{fault_of-planned}
use Rattle.soft_driver.specs.Own.{AreTied, frame_after}

module _ (state : PrivateView) (frame : FrameView) (objects : ObjectsView) (memory : List Segment) where
  leaves_by : (fault : Option GlError) (call : Call) → plan_found (number_asked state.tracked call) fault call ≢ Draw → frame ≡ frame_after fault state frame objects call memory
  unfolding number_asked
  leaves_by (Some error) call other = refl
  leaves_by None (Clear mask) other = absurd (other refl)
  leaves_by None (DrawArrays mode first count) other = absurd (other refl)
  leaves_by None (DrawElements mode count kind indices) other = absurd (other refl)
  leaves_by None _ other = refl

  -- a call that isn't planned as one that draws leaves the pixels
  pub frame_after-no_drawing : (call : Call) (plan : Plan) → plan ≡ plan_of state call → plan ≢ Draw → frame ≡ frame_after (fault_in plan) state frame objects call memory
  unfolding plan_of
  frame_after-no_drawing call plan planned other =
      leaves_by (fault_of state.tracked call) call (λ is. other (planned ∙ is))
      ∙ ap (λ (fault : Option GlError). frame_after fault state frame objects call memory) (fault_of-planned state call plan planned)

  frame_after-width : (fault : Option GlError) (call : Call) → (frame_after fault state frame objects call memory).width ≡ frame.width
  unfolding frame_changed
  frame_after-width (Some error) call = refl
  frame_after-width None (Clear mask) = refl
  frame_after-width None (DrawArrays mode first count) = refl
  frame_after-width None (DrawElements mode count kind indices) = refl
  frame_after-width None _ = refl

  frame_after-height : (fault : Option GlError) (call : Call) → (frame_after fault state frame objects call memory).height ≡ frame.height
  unfolding frame_changed
  frame_after-height (Some error) call = refl
  frame_after-height None (Clear mask) = refl
  frame_after-height None (DrawArrays mode first count) = refl
  frame_after-height None (DrawElements mode count kind indices) = refl
  frame_after-height None _ = refl

  private_after-width : (refused fault : Option GlError) (call : Call) → (private_after fault state call memory refused).width ≡ state.width
  private_after-width refused (Some error) call = refl
  private_after-width refused None call = refl

  private_after-height : (refused fault : Option GlError) (call : Call) → (private_after fault state call memory refused).height ≡ state.height
  private_after-height refused (Some error) call = refl
  private_after-height refused None call = refl

  -- a step leaves the sides as they are, in both
  pub step_keeps_sides : (refused fault : Option GlError) (call : Call) (state2 : PrivateView) (frame2 : FrameView) → AreTied state frame
      → state2 ≡ private_after fault state call memory refused → frame2 ≡ frame_after fault state frame objects call memory → AreTied state2 frame2
  step_keeps_sides refused fault call state2 frame2 tied stepped drawn =
      record {
        width = ap (λ (f : FrameView). f.width) drawn ∙ frame_after-width fault call ∙ tied.width ∙ sym (private_after-width refused fault call) ∙ sym (ap (λ (p : PrivateView). p.width) stepped);
        height = ap (λ (f : FrameView). f.height) drawn ∙ frame_after-height fault call ∙ tied.height ∙ sym (private_after-height refused fault call) ∙ sym (ap (λ (p : PrivateView). p.height) stepped);
      }

-- at the start both have the sides that were asked for
pub first_tied : (context width height : ℕ) → AreTied (first_private context width height) (first_frame width height)
unfolding first_private first_frame
first_tied context width height = record { width = refl; height = refl }
