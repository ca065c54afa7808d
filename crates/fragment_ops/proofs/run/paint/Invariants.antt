use Rattle.std.proofs.Common.{◌≡◌}
use Rattle.fragment_ops.specs.Frame.{changed_from}
use Rattle.fragment_ops.specs.Rows.{cell_painted, in_run}
use Rattle.fragment_ops.proofs.run.paint.Given as goal

-- the cells so far
abbrev pub invariant-loop-at : goal.invariant-loop-at
invariant-loop-at l = l.cells ≡ changed_from (in_run l.fn.first l.at (cell_painted l.fn.colour)) 0 l.fn.cells
