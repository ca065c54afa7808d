use Rattle.std.proofs.Common.{◌≡◌, ◌∙◌}
use Rattle.std.proofs.lemmas.Result.{IfOk-weaker}
use Rattle.driver_trait.specs.declared.reply.Reply.{Reply}
use Rattle.driver_trait.specs.Reply.{replied}
use Rattle.gl_state.specs.Event.{no_reply}
use Rattle.gl_state.specs.Step.{fault_in, private_reply}
use Rattle.soft_driver.specs.Own.{own_reply}
use Rattle.soft_driver.proofs.Replies.{own_reply-private}
use Rattle.soft_driver.proofs.soft.Soft.reply.Goals as goal

pub returns-in_default-clause-reply : goal.returns-in_default-clause-reply
returns-in_default-clause-reply c =
    let own = c.args.self.now.own in
    let call = c.args.call.now in
    let fault = fault_in c.args.plan in
    IfOk-weaker c.numbers.result (λ (reply : Reply). replied reply ≡ private_reply fault own.state call no_reply) (λ (reply : Reply). replied reply ≡ own_reply fault own call no_reply)
    (λ reply is. is ∙ own_reply-private own call no_reply c.args.plan c.requires.plan c.in_default.not-Read) c.numbers.ensures.reply
