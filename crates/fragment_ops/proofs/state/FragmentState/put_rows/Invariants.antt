use Rattle.std.proofs.Common.{◌≡◌}
use Rattle.fragment_ops.specs.Frame.{changed_from}
use Rattle.fragment_ops.specs.Rows.{cell_tested, in_area}
use Rattle.fragment_ops.proofs.Rows.{up_to}
use Rattle.fragment_ops.proofs.state.FragmentState.put_rows.Given as goal

-- the rows so far
abbrev pub invariant-loop-row : goal.invariant-loop-row
invariant-loop-row l =
    l.cells ≡ changed_from (in_area (up_to l.fn.area l.row) (cell_tested l.fn.self (record { depth = l.fn.depth; colour = l.fn.colour })) l.fn.width) 0 l.fn.cells
