use Rattle.std.proofs.Common.{◌≤◌, length, None, sym, ap, subst, ◌∙◌}
use Rattle.gl_objects.specs.declared.reply.EventReply.{EventReply}
use Rattle.gl_state.specs.declared.plan.Plan.TheVariants.{Ask as Asks}
use Rattle.gl_state.specs.Step.{list_length, private_after, private_reply}
use Rattle.gl_state.proofs.Stepping.{fault_of-planned}
use Rattle.soft_driver.specs.Own.{given_back, objects_changed}
use Rattle.soft_driver.specs.Renderer.{SoftView}
use Rattle.soft_driver.proofs.Events.{names_are_few}
use Rattle.soft_driver.proofs.Frames.{frame_after-no_drawing}
use Rattle.soft_driver.proofs.Replies.{own_reply-private}
use Rattle.soft_driver.proofs.Steps.{event_of-planned, soft_replied, soft_stepped}
use Rattle.soft_driver.proofs.soft.Soft.ask.Goals as goal

pub reply-reply-requires-clause-names : goal.reply-reply-requires-clause-names
reply-reply-requires-clause-names g c =
    let st = c.args.self.now in
    let call = c.args.call.now in
    let memory = g.M.Memory.segments c.args.memory.now in
    let planned = fault_of-planned st.own.state call Asks (sym c.requires.asks) in
    let given = c.in_ok-back.ensures.back ∙ ap (given_back st.objects) (event_of-planned st call memory None planned) in
    subst (λ (back : EventReply). length back.names ≤ list_length call) (sym given) (names_are_few st.objects st.own.state call memory Asks (sym c.requires.asks))

pub returns-clause-ok : goal.returns-clause-ok
returns-clause-ok g c =
    let st = c.args.self.now in
    let call = c.args.call.now in
    let memory = g.M.Memory.segments c.args.memory.now in
    let back = c.in_ok-back.back in
    let planned = fault_of-planned st.own.state call Asks (sym c.requires.asks) in
    let event = event_of-planned st call memory None planned in
    let given = c.in_ok-back.ensures.back ∙ ap (given_back st.objects) event in
    let same = c.self-2.view_is ∙ c.in_ok-back.ensures.ok in
    let stepped = c.finish.ensures ∙ ap (λ (s : SoftView). private_after None s.own.state call memory back.fault) same in
    let drawn =
    ap (λ (s : SoftView). s.own.frame) same ∙ frame_after-no_drawing st.own.state st.own.frame st.objects memory call Asks (sym c.requires.asks) (λ draw. absurd (cc)) in
    let changed = ap (λ (s : SoftView). s.objects) same ∙ ap (objects_changed st.objects) event in
    let replies =
    c.reply-reply.ensures
    ∙ ap (λ (s : SoftView). private_reply None s.own.state call back) same
    ∙ own_reply-private st.own call back Asks (sym c.requires.asks) (λ read. absurd (cc)) in (
      soft_stepped st call memory None planned back c.finish.new.self c.self-2.inside.frame c.self-2.inside.objects given stepped drawn changed,
      soft_replied st call memory None planned back _ given replies,
    )
