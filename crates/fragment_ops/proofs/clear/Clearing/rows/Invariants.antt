use Rattle.std.proofs.Common.{◌≡◌}
use Rattle.fragment_ops.specs.Cell.{cell_cleared}
use Rattle.fragment_ops.specs.Frame.{changed_from}
use Rattle.fragment_ops.specs.Rows.{in_area}
use Rattle.fragment_ops.proofs.Rows.{up_to}
use Rattle.fragment_ops.proofs.clear.Clearing.rows.Given as goal

-- the rows so far
abbrev pub invariant-loop-row : goal.invariant-loop-row
invariant-loop-row l = l.cells ≡ changed_from (in_area (up_to l.fn.area l.row) (cell_cleared l.fn.state l.fn.self.colour l.fn.self.depth) l.fn.width) 0 l.fn.cells
