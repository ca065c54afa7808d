use Rattle.std.proofs.Common.{◌≡◌, ◌∙◌, [], ◌∷◌, refl, subst, sym}
use Rattle.driver_trait.specs.Reply.{replied}
use Rattle.std.proofs.lemmas.Result.{on_ok_weaker}
use Rattle.replay_lines.proofs.RunLemmas.{nothing_told}
use Rattle.replay_core.specs.Plain.{CarriesOut, PlainView}
use Rattle.replay_core.proofs.PlainLemmas.{CarriesOut-call, unwritten}
use Rattle.replay_core.proofs.plain.Plain.carry_out_call.Goals as goal
use Rattle.replay_core.proofs.plain.Plain.carry_out_call.Goals.{in-Numbers-1, in-Bytes-1, in-Nothing-1}

pub returns-then-asks : goal.returns-then-asks
returns-then-asks g c =
    on_ok_weaker c.answer.result
    (CarriesOut-call g.D.Machine.tracked g.D.Machine.steps g.D.Machine.laws c.args.self.now c.args.line.now c.args.call.now (replied c.in_ok-reply.reply)
    c.self.inside.driver c.call.new.self c.shown.result.now c.self.inside.memory c.write_reply.new.memory c.self.inside.results c.answer.new.self
    c.self.view_is c.requires c.is_answering-asks.ensures.in_range c.bytes.ensures.small c.in_ok-reply.ensures.ok c.shown.ensures c.write_reply.ensures)
    c.answer.ensures.ok

pub returns-else-asks : goal.returns-else-asks
returns-else-asks g c =
    let tracked = g.D.Machine.tracked in
    let steps = g.D.Machine.steps in
    let laws = g.D.Machine.laws in
    let call = c.args.call.now in
    let reply = replied c.in_ok-reply.reply in
    let memory = c.self.inside.memory in
    let silent = sym c.is_answering-asks.ensures.gives ∙ c.if-asks.false in
    let after : PlainView g.row.D.Denot = record { driver = c.call.new.self; memory = memory; told = c.self.inside.results } in
    let carried : CarriesOut tracked steps (c.args.line.now ∷ []) c.args.self.now after =
    CarriesOut-call tracked steps laws c.args.self.now c.args.line.now call reply
    c.self.inside.driver c.call.new.self (tracked c.call.new.self) memory memory c.self.inside.results c.self.inside.results
    c.self.view_is c.requires c.is_answering-asks.ensures.in_range c.bytes.ensures.small c.in_ok-reply.ensures.ok refl
    (unwritten tracked steps laws c.self.inside.driver c.call.new.self call reply memory c.is_answering-asks.ensures.in_range c.bytes.ensures.small c.in_ok-reply.ensures.ok silent)
    (nothing_told c.args.line.now.number c.args.line.now.context call reply c.self.inside.results silent) in
    -- the reply is let go, whatever it is
    let same : c.match-reply.self ≡ after = elim c.match-reply.branch [
      | in-Numbers-1 w ↦ w.self-is
      | in-Bytes-1 w ↦ w.self-is
      | in-Nothing-1 w ↦ w.self-is
    ] in
    subst (λ (view : PlainView g.row.D.Denot). CarriesOut tracked steps (c.args.line.now ∷ []) c.args.self.now view) (sym same) carried
