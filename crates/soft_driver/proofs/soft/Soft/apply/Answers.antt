use Rattle.std.proofs.Common.{◌≡◌, Bool, true, false, List, Option, Some, None, Ok, Err, refl, sym, ap, ◌∙◌}
use Rattle.std.specs.Prelude.{Result, IsErr, IsOk}
use Rattle.std.proofs.lemmas.Result.{IfOk-weaker, on_ok_weaker}
use Rattle.gl_memory.specs.Segment.{Segment}
use Rattle.gl_objects.specs.declared.event.Event.{Event}
use Rattle.gl_objects.specs.declared.reply.EventReply.{EventReply}
use Rattle.gl_objects.specs.Event.{wants_memory}
use Rattle.gl_objects.specs.Step.{reply_of}
use Rattle.gl_objects.specs.View.{ObjectsView}
use Rattle.gl_state.specs.declared.plan.Plan.TheVariants.{Ask as Asks}
use Rattle.gl_state.specs.Event.{event_by}
use Rattle.gl_state.proofs.Stepping.{ask-planned, fault_of-planned}
use Rattle.gl_state.specs.Step.{plan_of}
use Rattle.gl_words.specs.declared.call.Call.{Call}
use Rattle.soft_driver.specs.Own.{event_of, given_back, objects_changed}
use Rattle.soft_driver.specs.Renderer.{SoftView}
use Rattle.soft_driver.proofs.Events.{event_asks}
use Rattle.soft_driver.proofs.Steps.{event_of-planned}
use Rattle.soft_driver.proofs.soft.Soft.apply.Goals as goal

-- the event that was made is that of the call
made : (st : SoftView) (call : Call) (memory : List Segment) (event : Option Event) → plan_of st.own.state call ≡ Asks → event ≡ event_by None st.own.state call memory → event ≡ event_of st.own call memory
made st call memory event asks is = is ∙ sym (event_of-planned st call memory None (fault_of-planned st.own.state call Asks (sym asks)))

-- only an event that may want memory is refused
refused : {T E : Type 0} (result : Result T E) (wants : Bool) → (wants ≡ false → IsOk result) → IsErr result → wants ≡ true
refused (Ok value) wants never failed = absurd (cc)
refused (Err refusal) true never failed = refl
refused (Err refusal) false never failed = absurd (cc (never refl))

pub returns-in-Some-clause-back : goal.returns-in-Some-clause-back
returns-in-Some-clause-back g c =
    let st = c.args.self.now in
    let call = c.args.call.now in
    let memory = g.M.Memory.segments c.args.memory.now in
    let event = c.in-Some.event in
    let is = c.in_ok-event.ensures.event ∙ ap (λ (s : SoftView). event_by None s.own.state call memory) c.self.view_is in
    let whole = made st call memory c.in_ok-event.field-0 c.requires.asks is in
    let given = ap (λ (s : SoftView). given_back s.objects (Some event)) c.self.view_is ∙ ap (given_back st.objects) (sym c.in-Some.is ∙ whole) in
    IfOk-weaker c.applied.result (λ (back : EventReply). back ≡ reply_of c.self.inside.objects event) (λ (back : EventReply). back ≡ given_back st.objects (event_of st.own call memory))
    (λ back same. same ∙ given) c.applied.ensures.reply

pub returns-in-Some-clause-ok : goal.returns-in-Some-clause-ok
returns-in-Some-clause-ok g c =
    let st = c.args.self.now in
    let call = c.args.call.now in
    let memory = g.M.Memory.segments c.args.memory.now in
    let event = c.in-Some.event in
    let is = c.in_ok-event.ensures.event ∙ ap (λ (s : SoftView). event_by None s.own.state call memory) c.self.view_is in
    let whole = made st call memory c.in_ok-event.field-0 c.requires.asks is in
    let changed = ap (λ (s : SoftView). objects_changed s.objects (Some event)) c.self.view_is ∙ ap (objects_changed st.objects) (sym c.in-Some.is ∙ whole) in
    let V : ObjectsView → SoftView = λ objects. record { own = record { state = c.self.inside.state; frame = c.self.inside.frame }; objects = objects } in
    on_ok_weaker c.applied.result
    (λ same. ap V (same ∙ changed) ∙ ap (λ (s : SoftView). record { own = s.own; objects = objects_changed st.objects (event_of st.own call memory) }) c.self.view_is)
    c.applied.ensures.ok

pub returns-in-Some-clause-memory : goal.returns-in-Some-clause-memory
returns-in-Some-clause-memory g c failed =
    let st = c.args.self.now in
    let call = c.args.call.now in
    let memory = g.M.Memory.segments c.args.memory.now in
    let event = c.in-Some.event in
    let is = c.in_ok-event.ensures.event ∙ ap (λ (s : SoftView). event_by None s.own.state call memory) c.self.view_is in
    event_asks st.own.state call memory event (ask-planned st.own.state call Asks (sym c.requires.asks) refl) (sym is ∙ c.in-Some.is)
    (refused c.applied.result (wants_memory event) c.applied.ensures.asks failed)

pub returns-in-None-clause-back : goal.returns-in-None-clause-back
returns-in-None-clause-back g c =
    let st = c.args.self.now in
    let call = c.args.call.now in
    let memory = g.M.Memory.segments c.args.memory.now in
    let is = c.in_ok-event.ensures.event ∙ ap (λ (s : SoftView). event_by None s.own.state call memory) c.self.view_is in
    let whole = made st call memory c.in_ok-event.field-0 c.requires.asks is in
    c.nothing.ensures ∙ ap (given_back st.objects) (sym c.in-None.is ∙ whole)

pub returns-in-None-clause-ok : goal.returns-in-None-clause-ok
returns-in-None-clause-ok g c =
    let st = c.args.self.now in
    let call = c.args.call.now in
    let memory = g.M.Memory.segments c.args.memory.now in
    let is = c.in_ok-event.ensures.event ∙ ap (λ (s : SoftView). event_by None s.own.state call memory) c.self.view_is in
    let whole = made st call memory c.in_ok-event.field-0 c.requires.asks is in
    ap (λ (event : Option Event). record { own = st.own; objects = objects_changed st.objects event }) (sym c.in-None.is ∙ whole)
