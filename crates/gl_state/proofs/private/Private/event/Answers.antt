use Rattle.std.proofs.Common.{Option, Some, None, refl, sym, ap, ◌∙◌, true≢false}
use Rattle.gl_objects.specs.declared.event.Event.{Event}
use Rattle.gl_state.specs.declared.ask.Ask.{Ask}
use Rattle.gl_state.specs.Event.{asked_or}
use Rattle.gl_state.specs.Step.{fault_in}
use Rattle.gl_state.proofs.Naming.{event_by-ask, event_by-draw, event_by-others, gives_content-asked, names-few, names-room}
use Rattle.gl_state.proofs.Stepping.{fault_of-planned}
use Rattle.gl_state.proofs.private.Private.event.Goals as goal

pub ask-requires : goal.ask-requires
ask-requires g c = record { no_fault = fault_of-planned c.args.self.now c.args.call.now c.args.plan c.requires.plan ∙ ap fault_in c.in-Ask.is }

pub returns-in_err-event-in-Some-clause-memory : goal.returns-in_err-event-in-Some-clause-memory
returns-in_err-event-in-Some-clause-memory g c refused =
    let some = c.in-Some in
    gives_content-asked c.args.self.now c.args.call.now some.ask (sym c.ask.ensures.ask ∙ some.is) (c.in_err-event-in-Some.ensures.memory refl)

pub returns-in-None-clause-event : goal.returns-in-None-clause-event
returns-in-None-clause-event g c =
    let memory = g.M.Memory.segments c.args.memory.now in
    sym (event_by-ask c.args.self.now c.args.call.now memory c.args.plan c.requires.plan c.in-Ask.is
    ∙ ap (λ (asked : Option Ask). asked_or asked None memory) (sym c.ask.ensures.ask ∙ c.in-None.is))

pub returns-in-Draw-clause-event : goal.returns-in-Draw-clause-event
returns-in-Draw-clause-event g c =
    c.used.ensures.used ∙ sym (event_by-draw c.args.self.now c.args.call.now (g.M.Memory.segments c.args.memory.now) c.args.plan c.requires.plan c.in-Draw.is)

pub returns-in_ok-event-in-Some-clause-few : goal.returns-in_ok-event-in-Some-clause-few
returns-in_ok-event-in-Some-clause-few g c objects =
    let memory = g.M.Memory.segments c.args.memory.now in
    let p = c.args.self.now in
    let call = c.args.call.now in
    let given = c.in_ok-event-in-Some in
    names-room objects p call memory given.field-0 c.args.plan c.requires.plan
    (event_by-ask p call memory c.args.plan c.requires.plan c.in-Ask.is
    ∙ ap (λ (asked : Option Ask). asked_or asked None memory) (sym c.ask.ensures.ask ∙ c.in-Some.is)
    ∙ ap (λ (event : Event). Some event) (sym given.ensures.event))

pub returns-in-Draw-clause-few : goal.returns-in-Draw-clause-few
returns-in-Draw-clause-few g c objects =
    let memory = g.M.Memory.segments c.args.memory.now in
    let p = c.args.self.now in
    let call = c.args.call.now in
    names-few objects p call memory c.args.plan c.requires.plan c.used.result
    (c.used.ensures.used ∙ sym (event_by-draw p call memory c.args.plan c.requires.plan c.in-Draw.is))

pub returns-in_default : goal.returns-in_default
returns-in_default g c =
    let other = c.in_default in
    record {
      event = sym (event_by-others c.args.self.now c.args.call.now (g.M.Memory.segments c.args.memory.now) c.args.plan c.requires.plan other.not-Ask other.not-Draw);
      legal = tt;
      few = λ objects. tt;
      memory = λ refused. absurd (true≢false (sym refused));
    }
