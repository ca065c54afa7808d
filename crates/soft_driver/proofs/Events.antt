-- Which calls leave the objects as they were, and get nothing back of them.
use Rattle.std.proofs.Common.{◌≡◌, ◌≢◌, ℕ, ◌≤◌, ℤ, Bool, true, false, cond, eqb, List, [], ◌∷◌, length, Option, Some, None, refl, sym, ap, subst, ◌∙◌, arith}
use Rattle.std.specs.Prelude.{IfSome, int_lt, not, pos, ◌&&◌}
use Rattle.std.proofs.lemmas.Bool.{true≢false}
use Rattle.std.proofs.lemmas.Option.{none-some}
use Rattle.gl_words.specs.declared.call.Call.{Call}
use Rattle.gl_words.specs.declared.call.Call.TheVariants.{BindBuffer, BindTexture, BufferData, BufferSubData, DeleteBuffers, DeleteTextures, DrawArrays, DrawElements, GenBuffers, GenTextures, IsBuffer, IsTexture, TexImage2D, TexParameteri, TexSubImage2D}
use Rattle.gl_words.specs.declared.error.GlError.{GlError}
use Rattle.gl_memory.specs.Segment.{Segment}
use Rattle.gl_objects.specs.declared.event.Event.{Event}
use Rattle.gl_objects.specs.declared.event.Event.TheVariants as ev
use Rattle.gl_objects.specs.Event.{wants_memory}
use Rattle.gl_objects.specs.declared.kind.Kind.{Kind}
use Rattle.gl_objects.specs.declared.kind.Kind.TheVariants as kinds
use Rattle.gl_objects.specs.Step.{names_of}
use Rattle.gl_objects.specs.View.{ObjectsView}
use Rattle.gl_tracked.specs.Fault.{fault_of}
use Rattle.gl_tracked.specs.Step.{number_asked}
use Rattle.gl_state.specs.declared.plan.Plan.{Plan}
use Rattle.gl_state.specs.declared.plan.Plan.TheVariants.{Ask as Asks}
use Rattle.gl_state.specs.declared.ask.Ask.TheVariants as asks
use Rattle.gl_state.specs.Event.{ask_of, asked_or, event_asked, event_by, no_reply, texture_bound, use_by, use_of, use_unless_none, used_buffers, used_textures}
use Rattle.gl_state.specs.Gets.{active_unit}
use Rattle.gl_state.specs.Private.{PrivateView}
use Rattle.gl_state.specs.Step.{fault_in, plan_by, plan_found, plan_of, room_of}
use Rattle.gl_state.proofs.Naming.{names-few}
use Rattle.gl_state.proofs.Stepping.{fault_of-planned}
use Rattle.soft_driver.specs.Own.{asks_memory, given_back, objects_changed}
use Rattle.soft_driver.specs.Soft.{event_by-asked}

-- an event, if there is one, changes nothing and gives nothing back
pub record ChangesNothing (objects : ObjectsView) (event : Option Event) : Type 0 where
  pub stays : objects_changed objects event ≡ objects
  pub gives : given_back objects event ≡ no_reply

module _ (objects : ObjectsView) where
  nothing : ChangesNothing objects None
  nothing = record { stays = refl; gives = refl }

  used_nothing : (buffers textures : List ℕ) → ChangesNothing objects (use_unless_none buffers textures)
  used_nothing [] [] = nothing
  used_nothing [] (texture ∷ textures) = record { stays = refl; gives = refl }
  used_nothing (buffer ∷ buffers) textures = record { stays = refl; gives = refl }

  chosen : (draws : Bool) (event : Option Event) → ChangesNothing objects event → ChangesNothing objects (cond draws event None)
  chosen true event none = none
  chosen false event none = nothing

  use_by-nothing : (p : PrivateView) (count : ℤ) (elements : ℕ) → ChangesNothing objects (use_by p count elements)
  unfolding use_by
  use_by-nothing p count elements =
      chosen (int_lt (pos 0) count && p.tracked.vertex.enabled) (use_unless_none (used_buffers p.tracked elements) (used_textures p)) (used_nothing (used_buffers p.tracked elements) (used_textures p))

  module _ (p : PrivateView) (memory : List Segment) where
    unasked_by : (fault : Option GlError) (call : Call) → plan_by fault call ≢ Asks → ChangesNothing objects (event_by fault p call memory)
    unfolding ask_of use_of
    unasked_by (Some error) call other = nothing
    unasked_by None (BindBuffer target buffer) other = absurd (other refl)
    unasked_by None (BindTexture target texture) other = absurd (other refl)
    unasked_by None (BufferData target size source usage) other = absurd (other refl)
    unasked_by None (BufferSubData target offset size source) other = absurd (other refl)
    unasked_by None (DeleteBuffers n names) other = absurd (other refl)
    unasked_by None (DeleteTextures n names) other = absurd (other refl)
    unasked_by None (DrawArrays mode first count) other = use_by-nothing p count 0
    unasked_by None (DrawElements mode count kind indices) other = use_by-nothing p count p.tracked.element_buffer
    unasked_by None (GenBuffers n names) other = absurd (other refl)
    unasked_by None (GenTextures n names) other = absurd (other refl)
    unasked_by None (IsBuffer buffer) other = absurd (other refl)
    unasked_by None (IsTexture texture) other = absurd (other refl)
    unasked_by None (TexImage2D target level internalformat width height border format kind pixels) other = absurd (other refl)
    unasked_by None (TexParameteri target pname param) other = absurd (other refl)
    unasked_by None (TexSubImage2D target level xoffset yoffset width height format kind pixels) other = absurd (other refl)
    unasked_by None _ other = nothing

    unasked_found : (asked : Option ℤ) (fault : Option GlError) (call : Call) → number_asked p.tracked call ≡ asked → plan_found asked fault call ≢ Asks → ChangesNothing objects (event_by fault p call memory)
    unasked_found None fault call is other = unasked_by fault call other
    unasked_found (Some number) fault call is other =
        let none = event_by-asked p call memory number fault is in
        record { stays = ap (objects_changed objects) none; gives = ap (given_back objects) none }

    -- a call that isn't planned as one that asks objects for something changes none, and gets nothing back
    pub unasked_changes_nothing : (call : Call) (plan : Plan) → plan ≡ plan_of p call → plan ≢ Asks → ChangesNothing objects (event_by (fault_in plan) p call memory)
    unfolding plan_of
    unasked_changes_nothing call plan planned other =
        subst (λ (fault : Option GlError). ChangesNothing objects (event_by fault p call memory)) (fault_of-planned p call plan planned)
        (unasked_found (number_asked p.tracked call) (fault_of p.tracked call) call refl (λ is. other (planned ∙ is)))

module _ (none : Bool) (kind : Kind) (name : ℕ) (memory : List Segment) where
  -- the event of a call that binds a name, or asks of one, where this is whether it is 0
  abbrev Bound : Option Event
  Bound = asked_or (cond none None (Some (asks.Bind kind name))) None memory

  abbrev Questioned : Option Event
  Questioned = asked_or (cond none None (Some (asks.Is kind name))) None memory

-- an event may want memory
abbrev may_want : Option Event → Bool
may_want None = false
may_want (Some event) = wants_memory event

bind_asks : (zero : Bool) (kind : Kind) (name : ℕ) (memory : List Segment) (event : Event) → Bound zero kind name memory ≡ Some event → not zero ≡ true
bind_asks true kind name memory event is = absurd (none-some event is)
bind_asks false kind name memory event is = refl

is_wants_none : (zero : Bool) (kind : Kind) (name : ℕ) (memory : List Segment) (event : Event) → Questioned zero kind name memory ≡ Some event → wants_memory event ≡ false
unfolding event_asked
is_wants_none true kind name memory event is = absurd (none-some event is)
is_wants_none false kind name memory event is = sym (ap may_want is)

parameter_wants_none : (name pname : ℕ) (value : ℤ) (event : Event) → Some (ev.Parameter name pname value) ≡ Some event → wants_memory event ≡ false
parameter_wants_none name pname value event is = sym (ap may_want is)

-- a call whose event may want memory asks for some
pub event_asks : (p : PrivateView) (call : Call) (memory : List Segment) (event : Event) → plan_by None call ≡ Asks → event_by None p call memory ≡ Some event → wants_memory event ≡ true → asks_memory None call ≡ true
unfolding ask_of use_of event_asked
event_asks p (BindBuffer target buffer) memory event planned is wants = bind_asks (eqb buffer 0) kinds.Buffer buffer memory event is
event_asks p (BindTexture target texture) memory event planned is wants = bind_asks (eqb texture 0) kinds.Texture texture memory event is
event_asks p (BufferData target size source usage) memory event planned is wants = refl
event_asks p (BufferSubData target offset size source) memory event planned is wants = refl
event_asks p (DeleteBuffers n names) memory event planned is wants = refl
event_asks p (DeleteTextures n names) memory event planned is wants = refl
event_asks p (GenBuffers n names) memory event planned is wants = refl
event_asks p (GenTextures n names) memory event planned is wants = refl
event_asks p (IsBuffer buffer) memory event planned is wants = absurd (true≢false (sym wants ∙ is_wants_none (eqb buffer 0) kinds.Buffer buffer memory event is))
event_asks p (IsTexture texture) memory event planned is wants = absurd (true≢false (sym wants ∙ is_wants_none (eqb texture 0) kinds.Texture texture memory event is))
event_asks p (TexImage2D target level internalformat width height border format kind pixels) memory event planned is wants = refl
event_asks p (TexParameteri target pname param) memory event planned is wants =
    absurd (true≢false (sym wants ∙ parameter_wants_none (texture_bound p (active_unit p)) pname param event is))
event_asks p (TexSubImage2D target level xoffset yoffset width height format kind pixels) memory event planned is wants = refl
event_asks p _ memory event planned is wants = absurd (cc)

-- no more names come back than there is room for in the reply
given_few : (objects : ObjectsView) (plan : Plan) (call : Call) (event : Option Event) → IfSome event (λ e. length (names_of objects e) ≤ room_of plan call)
    → length (given_back objects event).names ≤ room_of plan call
given_few objects plan call None few = omega arith
given_few objects plan call (Some event) few = few

pub names_are_few : (objects : ObjectsView) (p : PrivateView) (call : Call) (memory : List Segment) (plan : Plan) → plan ≡ plan_of p call
    → length (given_back objects (event_by (fault_in plan) p call memory)).names ≤ room_of plan call
names_are_few objects p call memory plan planned =
    given_few objects plan call (event_by (fault_in plan) p call memory) (names-few objects p call memory plan planned (event_by (fault_in plan) p call memory) refl)
