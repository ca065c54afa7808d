use Rattle.std.proofs.Common.{sym, ◌∙◌}
use Rattle.script_trace.proofs.Going.{passes_other, passes_result}
use Rattle.script_trace.proofs.trace.pass.Goals as goal

pub returns-then-line-context-clause-entry : goal.returns-then-line-context-clause-entry
returns-then-line-context-clause-entry g c =
    passes_result c.args.here.now c.pass.new.self c.args.line.now c.pass.result (c.if-line-context.true ∙ c.context.ensures) c.pass.ensures.entry c.pass.ensures.past

pub returns-else-line-context-clause-entry : goal.returns-else-line-context-clause-entry
returns-else-line-context-clause-entry g c = passes_other c.args.here.now c.args.line.now (λ its. c.if-line-context.false (its ∙ sym c.context.ensures))
