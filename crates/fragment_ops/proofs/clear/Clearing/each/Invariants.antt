use Rattle.std.proofs.Common.{◌≡◌}
use Rattle.fragment_ops.specs.Cell.{cell_cleared}
use Rattle.fragment_ops.specs.Frame.{changed_from}
use Rattle.fragment_ops.specs.Rows.{in_run}
use Rattle.fragment_ops.proofs.clear.Clearing.each.Given as goal

-- the cells so far
abbrev pub invariant-loop-at : goal.invariant-loop-at
invariant-loop-at l = l.cells ≡ changed_from (in_run l.fn.first l.at (cell_cleared l.fn.state l.fn.self.colour l.fn.self.depth)) 0 l.fn.cells
