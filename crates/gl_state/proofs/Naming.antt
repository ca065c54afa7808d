-- Which event a call makes by its plan, and how many names an event gives.
use Rattle.std.proofs.Common.{◌≡◌, ◌≢◌, ℕ, ◌<◌, ◌≤◌, ◌^◌, ℤ, pos, true, false, Bool, ◌&&◌, cond, eqb, List, [], ◌∷◌, ◌+◌, length, length-take, Option, Some, None, refl, sym, subst, ap, ◌∙◌, arith}
use Rattle.std.specs.List.{filter, range_with_len}
use Rattle.std.specs.Prelude.{int_lt, IfSome}
use Rattle.std.proofs.lemmas.Option.{none-some}
use Rattle.gl_words.specs.declared.call.Call.{Call}
use Rattle.gl_words.specs.declared.call.Call.TheVariants.{BindBuffer, BindTexture, BufferData, BufferSubData, DeleteBuffers, DeleteTextures, DrawArrays, DrawElements, GenBuffers, GenTextures, GetIntegerv, GetPointerv, IsBuffer, IsEnabled, IsTexture, TexImage2D, TexParameteri, TexSubImage2D}
use Rattle.gl_words.specs.declared.error.GlError.{GlError}
use Rattle.gl_memory.specs.Segment.{Segment}
use Rattle.gl_objects.specs.declared.event.Event.{Event}
use Rattle.gl_objects.specs.declared.event.Event.TheVariants as ev
use Rattle.gl_objects.specs.declared.kind.Kind.{Kind}
use Rattle.gl_objects.specs.declared.kind.Kind.TheVariants as kinds
use Rattle.gl_objects.specs.declared.named.Named.{Named}
use Rattle.gl_objects.specs.Event.{IsEvent}
use Rattle.gl_objects.specs.Step.{names_fault, names_of, unless_fault}
use Rattle.gl_objects.specs.Table.{is_free, least_free}
use Rattle.gl_objects.specs.View.{ObjectsView}
use Rattle.gl_tracked.specs.Step.{number_asked}
use Rattle.gl_state.specs.declared.ask.Ask.{Ask}
use Rattle.gl_state.specs.declared.ask.Ask.TheVariants as asks
use Rattle.gl_state.specs.declared.plan.Plan.{Plan}
use Rattle.gl_state.specs.declared.plan.Plan.TheVariants.{Ask as Asks, Draw, Fault, Known, Local, Query, Read}
use Rattle.gl_state.specs.Event.{ask_of, asked_or, event_asked, event_by, gives_content, has_content, use_by, use_of, use_unless_none, used_buffers, used_textures}
use Rattle.gl_state.specs.Private.{PrivateView}
use Rattle.gl_state.specs.Step.{fault_in, list_length, plan_by, plan_of, room_of}
use Rattle.gl_state.proofs.Stepping.{IsUnknown, number-planned, plan_by-planned}

-- a bind of a name above 0 is an event
pub bind_is_event : (kind : Kind) (name : ℕ) → 0 < name → name < 2 ^ 32 → IsEvent (ev.Bind kind name)
bind_is_event kinds.Buffer name some fits = (some, fits)
bind_is_event kinds.Texture name some fits = some

-- only calls that are planned so ask for an event besides drawing
ask_of-others : (p : PrivateView) (call : Call) → plan_by None call ≢ Asks → ask_of p call ≡ None
unfolding ask_of
ask_of-others p (BindBuffer target buffer) other = absurd (other refl)
ask_of-others p (BindTexture target texture) other = absurd (other refl)
ask_of-others p (BufferData target size source usage) other = absurd (other refl)
ask_of-others p (BufferSubData target offset size source) other = absurd (other refl)
ask_of-others p (DeleteBuffers n names) other = absurd (other refl)
ask_of-others p (DeleteTextures n names) other = absurd (other refl)
ask_of-others p (GenBuffers n names) other = absurd (other refl)
ask_of-others p (GenTextures n names) other = absurd (other refl)
ask_of-others p (IsBuffer buffer) other = absurd (other refl)
ask_of-others p (IsTexture texture) other = absurd (other refl)
ask_of-others p (TexImage2D target level internalformat width height border format kind pixels) other = absurd (other refl)
ask_of-others p (TexParameteri target pname param) other = absurd (other refl)
ask_of-others p (TexSubImage2D target level xoffset yoffset width height format kind pixels) other = absurd (other refl)
ask_of-others p _ other = refl

-- only draws use objects
use_of-others : (p : PrivateView) (call : Call) → plan_by None call ≢ Draw → use_of p call ≡ None
unfolding use_of
use_of-others p (DrawArrays mode first count) other = absurd (other refl)
use_of-others p (DrawElements mode count kind indices) other = absurd (other refl)
use_of-others p _ other = refl

-- what asks for a number of tracked state makes no event
event_by-asked : (p : PrivateView) (call : Call) (memory : List Segment) (number : ℤ) → number_asked p.tracked call ≡ Some number → event_by None p call memory ≡ None
unfolding number_asked ask_of use_of
event_by-asked p (GetIntegerv pname params) memory number asked = refl
event_by-asked p (GetPointerv pname params) memory number asked = refl
event_by-asked p (IsEnabled cap) memory number asked = refl
event_by-asked p _ memory number asked = absurd (none-some number asked)

module _ (p : PrivateView) (call : Call) (memory : List Segment) where
  -- the event of a call that asks for one
  pub event_by-ask : (plan : Plan) → plan ≡ plan_of p call → plan ≡ Asks → event_by (fault_in plan) p call memory ≡ asked_or (ask_of p call) None memory
  event_by-ask plan planned ask =
      let by = plan_by-planned p call plan planned (λ number known. absurd (cc)) (ap fault_in ask) ∙ ask in
      ap (λ (fault : Option GlError). event_by fault p call memory) (ap fault_in ask)
      ∙ ap (λ (used : Option Event). asked_or (ask_of p call) used memory) (use_of-others p call (λ draw. absurd (cc)))

  -- the event of a draw, and of Clear, which has none
  pub event_by-draw : (plan : Plan) → plan ≡ plan_of p call → plan ≡ Draw → event_by (fault_in plan) p call memory ≡ use_of p call
  event_by-draw plan planned draw =
      let by = plan_by-planned p call plan planned (λ number known. absurd (cc)) (ap fault_in draw) ∙ draw in
      ap (λ (fault : Option GlError). event_by fault p call memory) (ap fault_in draw)
      ∙ ap (λ (ask : Option Ask). asked_or ask (use_of p call) memory) (ask_of-others p call (λ ask. absurd (cc)))

  event_by-neither : plan_by None call ≢ Asks → plan_by None call ≢ Draw → event_by None p call memory ≡ None
  event_by-neither ask draw =
      ap (λ (asked : Option Ask). asked_or asked (use_of p call) memory) (ask_of-others p call ask) ∙ use_of-others p call draw

  event_by-unplanned : (plan : Plan) → plan ≡ plan_of p call → IsUnknown plan → fault_in plan ≡ None → plan ≢ Asks → plan ≢ Draw → event_by None p call memory ≡ None
  event_by-unplanned plan planned unknown none ask draw =
      let by = plan_by-planned p call plan planned unknown none in
      event_by-neither (λ is. ask (sym by ∙ is)) (λ is. draw (sym by ∙ is))

  -- all others make no event
  pub event_by-others : (plan : Plan) → plan ≡ plan_of p call → plan ≢ Asks → plan ≢ Draw → event_by (fault_in plan) p call memory ≡ None
  event_by-others (Fault error) planned ask draw = refl
  event_by-others (Known number) planned ask draw = event_by-asked p call memory number (number-planned p call number planned)
  event_by-others Query planned ask draw = event_by-unplanned Query planned (λ number known. absurd (cc)) refl ask draw
  event_by-others Read planned ask draw = event_by-unplanned Read planned (λ number known. absurd (cc)) refl ask draw
  event_by-others Asks planned ask draw = absurd (ask refl)
  event_by-others Draw planned ask draw = absurd (draw refl)
  event_by-others Local planned ask draw = event_by-unplanned Local planned (λ number known. absurd (cc)) refl ask draw

some-same : (one other : Event) → Some one ≡ Some other → one ≡ other
some-same one other same = cc

-- how many names an event gives at most; own
abbrev pub names_wanted : Ask → ℕ
names_wanted (asks.Gen kind n) = n
names_wanted _ = 0

content_by : (zero : Bool) (one ask : Ask) (content : Bool) → (has_content one ≡ true → content ≡ true) → cond zero None (Some one) ≡ Some ask → has_content ask ≡ true → content ≡ true
content_by true one ask content from is has = absurd (none-some ask is)
content_by false one ask content from is has = from (cc)

-- an event with bytes or names of its own is that of a call that gives some
pub gives_content-asked : (p : PrivateView) (call : Call) (ask : Ask) → ask_of p call ≡ Some ask → has_content ask ≡ true → gives_content call ≡ true
unfolding ask_of
gives_content-asked p (BindBuffer target buffer) ask is has = content_by (eqb buffer 0) (asks.Bind kinds.Buffer buffer) ask false (λ h. h) is has
gives_content-asked p (BindTexture target texture) ask is has = content_by (eqb texture 0) (asks.Bind kinds.Texture texture) ask false (λ h. h) is has
gives_content-asked p (BufferData target size source usage) ask is has = refl
gives_content-asked p (BufferSubData target offset size source) ask is has = refl
gives_content-asked p (DeleteBuffers n names) ask is has = refl
gives_content-asked p (DeleteTextures n names) ask is has = refl
gives_content-asked p (GenBuffers n names) ask is has = absurd (cc)
gives_content-asked p (GenTextures n names) ask is has = absurd (cc)
gives_content-asked p (IsBuffer buffer) ask is has = content_by (eqb buffer 0) (asks.Is kinds.Buffer buffer) ask false (λ h. h) is has
gives_content-asked p (IsTexture texture) ask is has = content_by (eqb texture 0) (asks.Is kinds.Texture texture) ask false (λ h. h) is has
gives_content-asked p (TexImage2D target level internalformat width height border format kind pixels) ask is has = refl
gives_content-asked p (TexParameteri target pname param) ask is has = absurd (cc)
gives_content-asked p (TexSubImage2D target level xoffset yoffset width height format kind pixels) ask is has = refl
gives_content-asked p _ ask is has = absurd (none-some ask is)

wanted_by : (zero : Bool) (one ask : Ask) → cond zero None (Some one) ≡ Some ask → names_wanted ask ≡ names_wanted one
wanted_by true one ask is = absurd (none-some ask is)
wanted_by false one ask is = cc

-- a call replies as many names as its event gives, at most
wanted-room : (p : PrivateView) (call : Call) (ask : Ask) → ask_of p call ≡ Some ask → names_wanted ask ≡ list_length call
unfolding ask_of
wanted-room p (BindBuffer target buffer) ask is = wanted_by (eqb buffer 0) (asks.Bind kinds.Buffer buffer) ask is
wanted-room p (BindTexture target texture) ask is = wanted_by (eqb texture 0) (asks.Bind kinds.Texture texture) ask is
wanted-room p (BufferData target size source usage) ask is = cc
wanted-room p (BufferSubData target offset size source) ask is = cc
wanted-room p (DeleteBuffers n names) ask is = cc
wanted-room p (DeleteTextures n names) ask is = cc
wanted-room p (GenBuffers n names) ask is = cc
wanted-room p (GenTextures n names) ask is = cc
wanted-room p (IsBuffer buffer) ask is = wanted_by (eqb buffer 0) (asks.Is kinds.Buffer buffer) ask is
wanted-room p (IsTexture texture) ask is = wanted_by (eqb texture 0) (asks.Is kinds.Texture texture) ask is
wanted-room p (TexImage2D target level internalformat width height border format kind pixels) ask is = cc
wanted-room p (TexParameteri target pname param) ask is = cc
wanted-room p (TexSubImage2D target level xoffset yoffset width height format kind pixels) ask is = cc
wanted-room p _ ask is = absurd (none-some ask is)

given-few : {T : Type 0} (table : List (ℕ × Named T)) (n : ℕ) (fault : Option GlError) → length (unless_fault fault (least_free table n) []) ≤ n
unfolding least_free
given-few table n None = omega (arith, length-take n (filter (is_free table) (range_with_len 1 (length table + n))))
given-few table n (Some error) = omega arith

names_of-few : (objects : ObjectsView) (ask : Ask) (memory : List Segment) → length (names_of objects (event_asked ask memory)) ≤ names_wanted ask
unfolding event_asked
names_of-few objects (asks.Gen kinds.Buffer n) memory = given-few objects.buffers n (names_fault objects.buffers n)
names_of-few objects (asks.Gen kinds.Texture n) memory = given-few objects.textures n (names_fault objects.textures n)
names_of-few objects _ memory = omega arith

module _ (objects : ObjectsView) (p : PrivateView) (call : Call) (memory : List Segment) (event : Event) where
  asked-few : (asked : Option Ask) → ask_of p call ≡ asked → asked_or asked None memory ≡ Some event → length (names_of objects event) ≤ list_length call
  asked-few None is gives = absurd (none-some event gives)
  asked-few (Some ask) is gives =
      let same : event_asked ask memory ≡ event = cc in
      subst (λ (e : Event). length (names_of objects e) ≤ list_length call) same
      (subst (λ (most : ℕ). length (names_of objects (event_asked ask memory)) ≤ most) (wanted-room p call ask is) (names_of-few objects ask memory))

  used-none : (buffers : List ℕ) (textures : List ℕ) → use_unless_none buffers textures ≡ Some event → length (names_of objects event) ≤ 0
  used-none [] [] gives = absurd (none-some event gives)
  used-none [] (texture ∷ textures) gives = subst (λ (e : Event). length (names_of objects e) ≤ 0) (some-same (ev.Use [] (texture ∷ textures)) event gives) (omega arith)
  used-none (buffer ∷ buffers) textures gives = subst (λ (e : Event). length (names_of objects e) ≤ 0) (some-same (ev.Use (buffer ∷ buffers) textures) event gives) (omega arith)

  drawn_by : (draws : Bool) (buffers textures : List ℕ) → cond draws (use_unless_none buffers textures) None ≡ Some event → length (names_of objects event) ≤ 0
  drawn_by true buffers textures gives = used-none buffers textures gives
  drawn_by false buffers textures gives = absurd (none-some event gives)

  drawn-none : (count : ℤ) (elements : ℕ) → use_by p count elements ≡ Some event → length (names_of objects event) ≤ 0
  unfolding use_by
  drawn-none count elements gives = drawn_by (int_lt (pos 0) count && p.tracked.vertex.enabled) (used_buffers p.tracked elements) (used_textures p) gives

  used_by_call-none : (one : Call) → use_of p one ≡ Some event → length (names_of objects event) ≤ 0
  unfolding use_of
  used_by_call-none (DrawArrays mode first count) gives = drawn-none count 0 gives
  used_by_call-none (DrawElements mode count kind indices) gives = drawn-none count p.tracked.element_buffer gives
  used_by_call-none _ gives = absurd (none-some event gives)

  -- an event gives no more names than there is room for in the reply of its call
  pub names-room : (plan : Plan) → plan ≡ plan_of p call → event_by (fault_in plan) p call memory ≡ Some event → length (names_of objects event) ≤ room_of plan call
  names-room Asks planned gives = asked-few (ask_of p call) refl (sym (event_by-ask p call memory Asks planned refl) ∙ gives)
  names-room Draw planned gives = used_by_call-none call (sym (event_by-draw p call memory Draw planned refl) ∙ gives)
  names-room (Fault error) planned gives = absurd (none-some event gives)
  names-room (Known number) planned gives = absurd (none-some event (sym (event_by-others p call memory (Known number) planned (λ ask. absurd (cc)) (λ draw. absurd (cc))) ∙ gives))
  names-room Query planned gives = absurd (none-some event (sym (event_by-others p call memory Query planned (λ ask. absurd (cc)) (λ draw. absurd (cc))) ∙ gives))
  names-room Read planned gives = absurd (none-some event (sym (event_by-others p call memory Read planned (λ ask. absurd (cc)) (λ draw. absurd (cc))) ∙ gives))
  names-room Local planned gives = absurd (none-some event (sym (event_by-others p call memory Local planned (λ ask. absurd (cc)) (λ draw. absurd (cc))) ∙ gives))

-- whether or not there is an event
pub names-few : (objects : ObjectsView) (p : PrivateView) (call : Call) (memory : List Segment) (plan : Plan) → plan ≡ plan_of p call → (event : Option Event) → event ≡ event_by (fault_in plan) p call memory
    → IfSome event (λ e. length (names_of objects e) ≤ room_of plan call)
names-few objects p call memory plan planned None is = tt
names-few objects p call memory plan planned (Some event) is = names-room objects p call memory event plan planned (sym is)
