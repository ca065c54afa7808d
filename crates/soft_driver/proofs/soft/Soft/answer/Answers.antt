use Rattle.std.proofs.Common.{sym}
use Rattle.gl_state.proofs.Stepping.{fault_of-planned}
use Rattle.gl_state.specs.Event.{no_reply}
use Rattle.gl_state.specs.Step.{fault_in}
use Rattle.soft_driver.proofs.Events.{unasked_changes_nothing}
use Rattle.soft_driver.proofs.Steps.{soft_replied}
use Rattle.soft_driver.proofs.soft.Soft.answer.Goals as goal

pub returns-in-Ok-clause-ok : goal.returns-in-Ok-clause-ok
returns-in-Ok-clause-ok g c =
    let st = c.args.self.now in
    let memory = g.M.Memory.segments c.args.memory.now in
    let call = c.args.call.now in
    let plan = c.args.plan in
    let none = unasked_changes_nothing st.objects st.own.state memory call plan c.requires.plan c.requires.unasked in
    (c.step.ensures, soft_replied st call memory (fault_in plan) (fault_of-planned st.own.state call plan c.requires.plan) no_reply _ (sym none.gives) c.in-Ok.ensures.reply)
