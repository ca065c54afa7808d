use Rattle.std.proofs.Common.{◌≡◌}
use Rattle.fragment_ops.specs.Frame.{changed_from}
use Rattle.fragment_ops.specs.Rows.{cell_tested, in_run}
use Rattle.fragment_ops.proofs.state.FragmentState.put_each.Given as goal

-- the cells so far
abbrev pub invariant-loop-at : goal.invariant-loop-at
invariant-loop-at l = l.cells ≡ changed_from (in_run l.fn.first l.at (cell_tested l.fn.self (record { depth = l.fn.depth; colour = l.fn.colour }))) 0 l.fn.cells
