use Rattle.std.proofs.Common.{◌∙◌}
use Rattle.fragment_ops.proofs.Scissors.{passes_scissor-off, passes_scissor-on}
use Rattle.fragment_ops.proofs.area.Area.scissored.Goals as goal

pub returns-then-state-clause-places : goal.returns-then-state-clause-places
returns-then-state-clause-places c = λ column row in_width in_height.
    c.cut_from.ensures.places column row in_width in_height ∙ passes_scissor-on c.args.state.now column row c.if-state.true

pub returns-else-state-clause-places : goal.returns-else-state-clause-places
returns-else-state-clause-places c = λ column row in_width in_height. passes_scissor-off c.args.state.now c.args.width c.args.height column row in_width in_height c.if-state.false
