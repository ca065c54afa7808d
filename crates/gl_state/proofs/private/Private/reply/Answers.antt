use Rattle.std.proofs.Common.{ℤ, [], ◌∷◌, sym, ap, ◌∙◌, rules, w64, SFits}
use Rattle.std.proofs.lemmas.Int.{to_z-of_z}
use Rattle.driver_trait.specs.Reply.{Numbers}
use Rattle.gl_state.proofs.Stepping.{answers-unknown, no_number-planned, private_reply-known, private_reply-others}
use Rattle.gl_state.proofs.private.Private.reply.Goals as goal

pub answer-requires-clause-unknown : goal.answer-requires-clause-unknown
answer-requires-clause-unknown c =
    no_number-planned c.args.self.now c.args.call.now c.args.plan c.requires.plan (answers-unknown c.args.plan c.in-Query.is)

pub returns-in-Known : goal.returns-in-Known
returns-in-Known c =
    let known = c.in-Known in
    let fits : SFits w64 known.number = search rules in
    ap (λ (number : ℤ). Numbers (number ∷ [])) (to_z-of_z w64 known.number fits)
    ∙ private_reply-known c.args.self.now c.args.event.now c.args.call.now c.args.plan known.number c.requires.plan known.is

pub returns-in_default : goal.returns-in_default
returns-in_default c =
    let other = c.in_default in
    sym (private_reply-others c.args.self.now c.args.event.now c.args.call.now c.args.plan c.requires.plan other.not-Known other.not-Query other.not-Ask)
