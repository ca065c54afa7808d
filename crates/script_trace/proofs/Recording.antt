-- The error of a call, the recorded one behind it, and what a step does where another is recorded.
use Rattle.std.proofs.Common.{◌≡◌, ℕ, ℤ, true, false, cond, List, [], ◌∷◌, Option, Some, None, refl, sym, ap, ◌∙◌}
use Rattle.std.specs.Prelude.{pos, slice_index_or}
use Rattle.std.proofs.lemmas.Bool.{true≢false}
use Rattle.gl_words.specs.declared.call.Call.{Call}
use Rattle.gl_words.specs.declared.call.Call.TheVariants.{Clear, DrawArrays, DrawElements, GetError, GetFixedv, GetIntegerv, IsEnabled, ReadPixels}
use Rattle.gl_words.specs.declared.error.GlError.{GlError}
use Rattle.gl_words.specs.declared.error.GlError.TheVariants.{InvalidEnum, InvalidValue, InvalidOperation, StackOverflow, StackUnderflow, OutOfMemory}
use Rattle.gl_memory.specs.Segment.{Segment}
use Rattle.gl_objects.specs.declared.event.Event.{Event}
use Rattle.gl_objects.specs.declared.reply.EventReply.{EventReply}
use Rattle.gl_objects.specs.declared.texture.TextureObject.{TextureObject}
use Rattle.gl_objects.specs.Textures.{texture_in}
use Rattle.gl_objects.specs.View.{ObjectsView}
use Rattle.gl_tracked.specs.declared.tracked.Tracked.{Tracked}
use Rattle.gl_tracked.specs.Fault.{fault_of}
use Rattle.gl_tracked.specs.Step.{set_by}
use Rattle.fragment_ops.specs.Frame.{FrameView, frame_changed}
use Rattle.texture_units.specs.declared.sampling.Sampling.{Sampling}
use Rattle.texture_units.specs.Texture.{TextureView}
use Rattle.triangle_draw.specs.declared.drawing.Drawing.{Drawing}
use Rattle.triangle_draw.specs.declared.elements.Elements.TheVariants.{From, Indexed}
use Rattle.triangle_draw.specs.Draw.{cell_after_draw}
use Rattle.triangle_draw.specs.Elements.{place_in}
use Rattle.triangle_draw.specs.Unit.{UnitView}
use Rattle.driver_trait.specs.Reply.{Replied, Numbers}
use Rattle.gl_state.specs.Event.{ask_of, event_by, texture_bound, texture_used, use_by, use_of, used_textures}
use Rattle.gl_state.specs.Gets.{capability_rows, fixed_asked, fixed_rows, integers_asked, rectangle_rows, setting_rows, truth_asked, active_unit}
use Rattle.gl_state.specs.Private.{PrivateView}
use Rattle.gl_state.specs.Step.{code_of_error, error_set_by, private_after, recorded, recorded_by, settings_set_by, stacks_set_by}
use Rattle.soft_driver.specs.Drawing.{constant_of, drawing_of, stage_of, texturing_of, unit_if_complete, unit_of, unit_with, unit_with_texture}
use Rattle.soft_driver.specs.Own.{Own, asks_memory, event_of, frame_after, given_back, memories_of, number_of, objects_changed, own_reply, own_step}
use Rattle.soft_driver.specs.Renderer.{SoftSteps, SoftView, soft_after, soft_reply}
use Rattle.script_trace.specs.Errors.{ErrorLaw, error_after, error_numbered, error_of, first_error, reply_beside, soft_with_error, with_error}

-- the number of an error tells it
pub error_numbered-code : (error : Option GlError) → error_numbered (pos (code_of_error error)) ≡ error
unfolding error_numbered
error_numbered-code None = refl
error_numbered-code (Some InvalidEnum) = refl
error_numbered-code (Some InvalidValue) = refl
error_numbered-code (Some InvalidOperation) = refl
error_numbered-code (Some StackOverflow) = refl
error_numbered-code (Some StackUnderflow) = refl
error_numbered-code (Some OutOfMemory) = refl

-- the recorded error behind a call whose own errors are none, and whose event is refused for this, or for none
refused_by : (before refused : Option GlError) (call : Call) → error_set_by before call ≡ before → recorded_by (error_set_by before call) refused ≡ error_after before call refused
refused_by before None call same = refl
refused_by before (Some fault) call same = ap (λ (error : Option GlError). recorded error fault) same

-- where none is recorded, the error of a call is recorded
pub error_after-none : (call : Call) (error : Option GlError) → error_after None call error ≡ error
error_after-none GetError None = refl
error_after-none _ None = refl
error_after-none call (Some error) = refl

-- private state with another recorded error
abbrev with_recorded : PrivateView → Option GlError → PrivateView
with_recorded p error = record p { error = error }

module _ (p : PrivateView) (objects : ObjectsView) (memory : List Segment) (before : Option GlError) where
  -- GetError makes no event, and all other calls leave the recorded error
  error_refused : (call : Call) → recorded_by (error_set_by before call) (given_back objects (event_by None p call memory)).fault ≡ error_after before call (given_back objects (event_by None p call memory)).fault
  unfolding ask_of use_of
  error_refused GetError = refl
  error_refused call = refused_by before (given_back objects (event_by None p call memory)).fault call refl

  error_by : (fault : Option GlError) (call : Call)
      → (private_after fault (with_recorded p before) call memory (given_back objects (event_by fault p call memory)).fault).error ≡ error_after before call (first_error fault (given_back objects (event_by fault p call memory)).fault)
  error_by (Some error) call = refl
  error_by None call = error_refused call

-- the recorded error behind a step is the one before it with the error of the call
pub error_law_holds : ErrorLaw
unfolding own_step event_of
error_law_holds own objects call memory = error_by own.state objects memory own.state.error (fault_of own.state.tracked call) call

module _ (p : PrivateView) (recorded : Option GlError) where
  event_by-recorded : (fault : Option GlError) (call : Call) (memory : List Segment) → event_by fault (with_recorded p recorded) call memory ≡ event_by fault p call memory
  unfolding ask_of use_of use_by used_textures texture_used texture_bound active_unit
  event_by-recorded (Some error) call memory = refl
  event_by-recorded None (DrawArrays mode first count) memory = refl
  event_by-recorded None (DrawElements mode count kind indices) memory = refl
  event_by-recorded None _ memory = refl

  unit_if_complete-recorded : (unit : ℕ) (sampling : Sampling) (image : Option TextureView) → unit_if_complete (with_recorded p recorded) unit sampling image ≡ unit_if_complete p unit sampling image
  unfolding unit_with constant_of
  unit_if_complete-recorded unit sampling None = refl
  unit_if_complete-recorded unit sampling (Some image) = refl

  unit_with_texture-recorded : (unit : ℕ) (texture : Option TextureObject) → unit_with_texture (with_recorded p recorded) unit texture ≡ unit_with_texture p unit texture
  unit_with_texture-recorded unit None = refl
  unit_with_texture-recorded unit (Some texture) = unit_if_complete-recorded unit texture.sampling texture.image

  unit_of-recorded : (objects : ObjectsView) (unit : ℕ) → unit_of (with_recorded p recorded) objects unit ≡ unit_of p objects unit
  unfolding unit_of texture_bound
  unit_of-recorded objects unit =
      ap (λ (found : Option UnitView). cond (slice_index_or p.settings.capabilities.texture_2d unit false) found None) (unit_with_texture-recorded unit (texture_in objects (texture_bound p unit)))

  -- a draw goes by the same
  drawing_of-recorded : (objects : ObjectsView) → drawing_of (with_recorded p recorded) objects ≡ drawing_of p objects
  unfolding drawing_of stage_of texturing_of
  drawing_of-recorded objects =
      let At : Option UnitView → Option UnitView → Drawing = λ one other. record (drawing_of p objects) { first_unit = one; second_unit = other } in
      ap (λ (unit : Option UnitView). At unit (unit_of (with_recorded p recorded) objects 1)) (unit_of-recorded objects 0) ∙ ap (λ (unit : Option UnitView). At (unit_of p objects 0) unit) (unit_of-recorded objects 1)

  frame_after-recorded : (fault : Option GlError) (frame : FrameView) (objects : ObjectsView) (call : Call) (memory : List Segment) → frame_after fault (with_recorded p recorded) frame objects call memory ≡ frame_after fault p frame objects call memory
  frame_after-recorded (Some error) frame objects call memory = refl
  frame_after-recorded None frame objects (Clear mask) memory = refl
  frame_after-recorded None frame objects (DrawArrays mode first count) memory =
      let memories = memories_of objects memory in
      ap (λ (drawing : Drawing). frame_changed (cell_after_draw drawing memories mode (place_in (From (number_of first)) memories) (number_of count)) frame) (drawing_of-recorded objects)
  frame_after-recorded None frame objects (DrawElements mode count kind indices) memory =
      let memories = memories_of objects memory in
      ap (λ (drawing : Drawing). frame_changed (cell_after_draw drawing memories mode (place_in (Indexed p.tracked.element_buffer kind indices) memories) (number_of count)) frame) (drawing_of-recorded objects)
  frame_after-recorded None frame objects _ memory = refl

  private_after-recorded : (fault : Option GlError) (call : Call) (memory : List Segment) (refused : Option GlError)
      → private_after fault (with_recorded p recorded) call memory refused ≡ with_recorded (private_after fault p call memory refused) (private_after fault (with_recorded p recorded) call memory refused).error
  private_after-recorded (Some error) call memory refused = refl
  private_after-recorded None call memory refused = refl

-- what calls other than GetError reply doesn't show the recorded error
own_reply-recorded : (own : Own) (recorded : Option GlError) (fault : Option GlError) (call : Call) (back : EventReply) → (call ≡ GetError → ⊥) → own_reply fault (with_error own recorded) call back ≡ own_reply fault own call back
unfolding fixed_asked fixed_rows integers_asked rectangle_rows setting_rows truth_asked capability_rows active_unit
own_reply-recorded own recorded (Some error) call back other = refl
own_reply-recorded own recorded None GetError back other = absurd (other refl)
own_reply-recorded own recorded None (GetFixedv pname params) back other = refl
own_reply-recorded own recorded None (GetIntegerv pname params) back other = refl
own_reply-recorded own recorded None (IsEnabled cap) back other = refl
own_reply-recorded own recorded None (ReadPixels x y width height format kind pixels) back other = refl
own_reply-recorded own recorded None _ back other = refl

-- a renderer, by its parts
abbrev soft_at : PrivateView → FrameView → ObjectsView → SoftView
soft_at state frame objects = record { own = record { state = state; frame = frame }; objects = objects }

module _ (st : SoftView) (recorded : Option GlError) (call : Call) (memory : List Segment) where
  -- the error of a call is the same whatever is recorded
  pub error_of-recorded : error_of (with_error st.own recorded) st.objects call memory ≡ error_of st.own st.objects call memory
  unfolding event_of
  error_of-recorded =
      let fault = fault_of st.own.state.tracked call in
      ap (λ (event : Option Event). first_error fault (given_back st.objects event).fault) (event_by-recorded st.own.state recorded fault call memory)

  -- a call does the same but to the recorded error
  pub soft_after-recorded : soft_after (soft_with_error st recorded) call memory ≡ soft_with_error (soft_after st call memory) (error_after recorded call (error_of st.own st.objects call memory))
  unfolding soft_after own_step event_of
  soft_after-recorded =
      let p = st.own.state in
      let there = with_recorded p recorded in
      let frame = st.own.frame in
      let objects = st.objects in
      let fault = fault_of p.tracked call in
      let event = event_by fault p call memory in
      let refused = (given_back objects event).fault in
      let objects2 = objects_changed objects event in
      let frame2 = frame_after fault p frame objects call memory in
      ap (λ (e : Option Event). soft_at (private_after fault there call memory (given_back objects e).fault) (frame_after fault there frame objects call memory) (objects_changed objects e)) (event_by-recorded p recorded fault call memory)
      ∙ ap (λ (f : FrameView). soft_at (private_after fault there call memory refused) f objects2) (frame_after-recorded p recorded fault frame objects call memory)
      ∙ ap (λ (state : PrivateView). soft_at state frame2 objects2) (private_after-recorded p recorded fault call memory refused)
      ∙ ap (λ (error : Option GlError). soft_at (with_recorded (private_after fault p call memory refused) error) frame2 objects2) (error_by p objects memory recorded fault call)

  -- and replies the same, unless it is GetError
  pub soft_reply-recorded : (call ≡ GetError → ⊥) → soft_reply (soft_with_error st recorded) call memory ≡ soft_reply st call memory
  unfolding soft_reply own_step
  soft_reply-recorded other =
      let p = st.own.state in
      let fault = fault_of p.tracked call in
      ap (λ (e : Option Event). own_reply fault (with_error st.own recorded) call (given_back st.objects e)) (event_by-recorded p recorded fault call memory)
      ∙ own_reply-recorded st.own recorded fault call (given_back st.objects (event_by fault p call memory)) other

-- GetError replies the recorded error, and forgets it
pub soft_after-get_error : (st : SoftView) (memory : List Segment) → soft_after st GetError memory ≡ soft_with_error st None
unfolding soft_after own_step event_of fault_of ask_of use_of set_by stacks_set_by settings_set_by
soft_after-get_error st memory = refl

pub soft_reply-get_error : (st : SoftView) (memory : List Segment) → soft_reply st GetError memory ≡ Numbers (pos (code_of_error st.own.state.error) ∷ [])
unfolding soft_reply own_step fault_of ask_of use_of
soft_reply-get_error st memory = refl

-- the error that a renderer records of a call, where it has recorded none
pub error-soft_after : (st : SoftView) (call : Call) (memory : List Segment) → st.own.state.error ≡ None → (soft_after st call memory).own.state.error ≡ error_of st.own st.objects call memory
unfolding soft_after
error-soft_after st call memory none =
    error_law_holds st.own st.objects call memory
    ∙ ap (λ (before : Option GlError). error_after before call (error_of st.own st.objects call memory)) none
    ∙ error_after-none call (error_of st.own st.objects call memory)

-- what a call replies where this is recorded
soft_reply-beside : (st : SoftView) (recorded : Option GlError) (call : Call) (memory : List Segment) → reply_beside recorded call (soft_reply st call memory) ≡ soft_reply (soft_with_error st recorded) call memory
soft_reply-beside st recorded GetError memory = sym (soft_reply-get_error (soft_with_error st recorded) memory)
soft_reply-beside st recorded call memory = sym (soft_reply-recorded st recorded call memory (λ is. absurd (cc)))

-- a call is carried out by a renderer that has recorded nothing, and that forgets its error then
module _ (st st1 st2 : SoftView) (recorded recorded2 : Option GlError) (call : Call) (memory : List Segment) (reply reply2 : Replied) (error : Option GlError)
    (none : st.own.state.error ≡ None) (step : SoftSteps st call memory st1 reply) (told : error ≡ st1.own.state.error) (left : st2 ≡ soft_with_error st1 None)
    (noted : recorded2 ≡ error_after recorded call error) (beside : reply2 ≡ reply_beside recorded call reply) where
  error_is : error ≡ error_of st.own st.objects call memory
  error_is = told ∙ ap (λ (s : SoftView). s.own.state.error) (step.0) ∙ error-soft_after st call memory none

  -- its error is that of the call where this is recorded
  pub error_told : error ≡ error_of (with_error st.own recorded) st.objects call memory
  error_told = error_is ∙ sym (error_of-recorded st recorded call memory)

  after_told : soft_with_error st2 recorded2 ≡ soft_after (soft_with_error st recorded) call memory
  after_told =
      ap (λ (s : SoftView). soft_with_error s recorded2) left
      ∙ ap (λ (s : SoftView). soft_with_error s recorded2) (step.0)
      ∙ ap (λ (e : Option GlError). soft_with_error (soft_after st call memory) e) (noted ∙ ap (λ (e : Option GlError). error_after recorded call e) error_is)
      ∙ sym (soft_after-recorded st recorded call memory)

  -- and so is its step
  pub step_told : SoftSteps (soft_with_error st recorded) call memory (soft_with_error st2 recorded2) reply2
  step_told = (after_told, beside ∙ ap (λ (r : Replied). reply_beside recorded call r) (step.1) ∙ soft_reply-beside st recorded call memory)

-- no error stands recorded then
pub none_stays : (st1 st2 : SoftView) → st2 ≡ soft_with_error st1 None → st2.own.state.error ≡ None
none_stays st1 st2 left = ap (λ (s : SoftView). s.own.state.error) left

-- GetError carried out: the recorded error is told, and forgotten
pub told_by_get_error : (st st1 : SoftView) (memory : List Segment) (reply : Replied) → SoftSteps st GetError memory st1 reply → reply ≡ Numbers (pos (code_of_error st.own.state.error) ∷ [])
told_by_get_error st st1 memory reply step = step.1 ∙ soft_reply-get_error st memory

pub left_by_get_error : (st st1 : SoftView) (memory : List Segment) (reply : Replied) → SoftSteps st GetError memory st1 reply → st1 ≡ soft_with_error st None
left_by_get_error st st1 memory reply step = step.0 ∙ soft_after-get_error st memory

-- which asks for no memory
pub get_error_asks_nothing : (tracked : Tracked) → asks_memory (fault_of tracked GetError) GetError ≡ true → ⊥
unfolding fault_of
get_error_asks_nothing tracked is = absurd (true≢false (sym is))

-- its reply tells the error
pub one_told : (number : ℤ) (error : Option GlError) → Numbers (number ∷ []) ≡ Numbers (pos (code_of_error error) ∷ []) → error_numbered number ≡ error
one_told number error is =
    let same : number ≡ pos (code_of_error error) = cc in
    ap error_numbered same ∙ error_numbered-code error

pub numbers_eq : (numbers others : List ℤ) → Numbers numbers ≡ Numbers others → numbers ≡ others
numbers_eq numbers others is = cc
