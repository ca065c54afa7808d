use Rattle.std.proofs.Common.{Option, sym, ap, ◌∙◌}
use Rattle.gl_words.specs.declared.error.GlError.{GlError}
use Rattle.gl_state.specs.declared.plan.Plan.TheVariants.{Ask as Asks}
use Rattle.gl_state.specs.Event.{no_reply}
use Rattle.gl_state.specs.Step.{fault_in, plan_of}
use Rattle.gl_state.proofs.Stepping.{fault_of-planned}
use Rattle.soft_driver.specs.Own.{asks_memory}
use Rattle.soft_driver.specs.Renderer.{SoftView}
use Rattle.soft_driver.proofs.Events.{unasked_changes_nothing}
use Rattle.soft_driver.proofs.Replies.{own_reply-nothing}
use Rattle.soft_driver.proofs.Steps.{soft_replied}
use Rattle.soft_driver.proofs.soft.Soft.carry_out.Goals as goal

pub returns-in-Known-clause-memory : goal.returns-in-Known-clause-memory
returns-in-Known-clause-memory g c failed =
    let st = c.args.self.now in
    let call = c.args.call.now in
    let planned = c.plan-plan.ensures.plan ∙ ap (λ (s : SoftView). plan_of s.own.state call) c.self.view_is in
    ap (λ (fault : Option GlError). asks_memory fault call) (fault_of-planned st.own.state call c.plan-plan.result planned) ∙ c.answer.ensures.memory failed

pub returns-in-Ask-clause-memory : goal.returns-in-Ask-clause-memory
returns-in-Ask-clause-memory g c failed =
    let st = c.args.self.now in
    let call = c.args.call.now in
    let planned = sym c.in-Ask.is ∙ c.plan-plan.ensures.plan ∙ ap (λ (s : SoftView). plan_of s.own.state call) c.self.view_is in
    ap (λ (fault : Option GlError). asks_memory fault call) (fault_of-planned st.own.state call Asks planned) ∙ c.ask.ensures.memory failed

pub returns-in_default-clause-ok : goal.returns-in_default-clause-ok
returns-in_default-clause-ok g c =
    let st = c.args.self.now in
    let call = c.args.call.now in
    let memory = g.M.Memory.segments c.args.memory.now in
    let plan = c.plan-plan.result in
    let other = c.in_default in
    let planned = c.plan-plan.ensures.plan ∙ ap (λ (s : SoftView). plan_of s.own.state call) c.self.view_is in
    let none = unasked_changes_nothing st.objects st.own.state memory call plan planned other.not-Ask in (
      c.step.ensures,
      soft_replied st call memory (fault_in plan) (fault_of-planned st.own.state call plan planned) no_reply _ (sym none.gives)
          (sym (own_reply-nothing st.own call no_reply plan planned other.not-Known other.not-Query other.not-Read other.not-Ask)),
    )
