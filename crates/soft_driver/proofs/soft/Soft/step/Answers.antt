use Rattle.std.proofs.Common.{None, sym, ap, ◌∙◌}
use Rattle.gl_state.proofs.Stepping.{fault_of-planned}
use Rattle.gl_state.specs.Event.{no_reply}
use Rattle.gl_state.specs.Step.{fault_in, plan_of}
use Rattle.soft_driver.specs.contracts.soft.Soft.{the_view}
use Rattle.soft_driver.specs.Renderer.{SoftView, soft_after}
use Rattle.soft_driver.proofs.Events.{unasked_changes_nothing}
use Rattle.soft_driver.proofs.Frames.{step_keeps_sides}
use Rattle.soft_driver.proofs.Steps.{soft_stepped}
use Rattle.soft_driver.proofs.soft.Soft.step.Goals as goal

pub invariant_of-self : goal.invariant_of-self
invariant_of-self g c =
    step_keeps_sides c.self.inside.state c.self.inside.frame c.self.inside.objects (g.M.Memory.segments c.args.memory.now) None (fault_in c.args.plan) c.args.call.now
    c.finish.new.self c.draw.new.frame c.self.invariant c.finish.ensures c.draw.ensures

pub returns : goal.returns
returns g c =
    let memory = g.M.Memory.segments c.args.memory.now in
    let call = c.args.call.now in
    let plan = c.args.plan in
    let st = the_view c.self.inside in
    let planned = c.requires.plan ∙ ap (λ (s : SoftView). plan_of s.own.state call) (sym c.self.view_is) in
    let none = unasked_changes_nothing st.objects st.own.state memory call plan planned c.requires.unasked in
    soft_stepped st call memory (fault_in plan) (fault_of-planned st.own.state call plan planned) no_reply c.finish.new.self c.draw.new.frame st.objects
    (sym none.gives) c.finish.ensures c.draw.ensures (sym none.stays)
    ∙ ap (λ (s : SoftView). soft_after s call memory) c.self.view_is
