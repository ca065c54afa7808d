use Rattle.std.proofs.Common.{◌∙◌, arith}
use Rattle.fragment_ops.specs.declared.cell.Cell.{Cell}
use Rattle.fragment_ops.specs.Rows.{cell_painted, cell_tested}
use Rattle.fragment_ops.proofs.Keeping.{cell_tested-painted}
use Rattle.fragment_ops.proofs.Rows.{in_run-same}
use Rattle.fragment_ops.proofs.state.FragmentState.put_cells.Goals as goal

pub returns-then-paints : goal.returns-then-paints
returns-then-paints c =
    let state = c.args.self.now in
    let colour = c.args.colour in
    c.paint.ensures
    ∙ in_run-same c.args.first c.args.until (cell_painted colour) (cell_tested state (record { depth = c.args.depth; colour = colour })) c.args.cells.now
    (λ (old : Cell). cell_tested-painted state c.args.depth colour old (omega arith) (c.paints.ensures c.if-paints.true))
