use Rattle.std.proofs.Common.{Option, sym, ap, ◌∙◌}
use Rattle.gl_words.specs.declared.error.GlError.{GlError}
use Rattle.gl_state.specs.Step.{fault_in, private_after}
use Rattle.gl_state.proofs.Stepping.{fault_in-others, fault_in-sets, fault_of-planned, private_after-others, private_after-query, private_after-refused, sets-no_query}
use Rattle.gl_state.proofs.private.Private.finish.Goals as goal

pub set-requires-clause-no_fault : goal.set-requires-clause-no_fault
set-requires-clause-no_fault g c =
    fault_of-planned c.args.self.now c.args.call.now c.args.plan c.requires.plan ∙ fault_in-sets c.args.plan c.in-Ask.is

pub set-requires-clause-no_query : goal.set-requires-clause-no_query
set-requires-clause-no_query g c = sets-no_query c.args.self.now c.args.call.now c.args.plan c.requires.plan c.in-Ask.is

pub returns-in-Query : goal.returns-in-Query
returns-in-Query g c =
    let memory = g.M.Memory.segments c.args.memory.now in
    let p = c.args.self.now in
    let call = c.args.call.now in
    let query = c.in-Query.is in
    c.note_refused.ensures
    ∙ private_after-refused p call memory c.args.refused c.forget_error.new.self (c.forget_error.ensures ∙ private_after-query p call memory c.args.plan c.requires.plan query)
    ∙ ap (λ (fault : Option GlError). private_after fault p call memory c.args.refused) (sym (ap fault_in query))

pub returns-in_default : goal.returns-in_default
returns-in_default g c =
    let memory = g.M.Memory.segments c.args.memory.now in
    let p = c.args.self.now in
    let call = c.args.call.now in
    let other = c.in_default in
    c.note_refused-in_default.ensures
    ∙ private_after-refused p call memory c.args.refused p (private_after-others p call memory c.args.plan c.requires.plan other.not-Fault other.not-Query other.not-Ask other.not-Local)
    ∙ ap (λ (fault : Option GlError). private_after fault p call memory c.args.refused) (sym (fault_in-others c.args.plan other.not-Fault))
