use Rattle.std.proofs.Common.{◌∙◌}
use Rattle.fragment_ops.specs.declared.cell.Cell.{Cell}
use Rattle.fragment_ops.specs.Cell.{cell_cleared}
use Rattle.fragment_ops.proofs.Keeping.{cell_cleared-overwritten}
use Rattle.fragment_ops.proofs.Rows.{in_run-same}
use Rattle.fragment_ops.proofs.clear.Clearing.run.Goals as goal

pub returns-then-overwrites : goal.returns-then-overwrites
returns-then-overwrites c =
    let state = c.args.state.now in
    let colour = c.args.self.colour in
    let depth = c.args.self.depth in
    c.fill.ensures
    ∙ in_run-same c.args.first c.args.until (λ (old : Cell). c.args.values) (cell_cleared state colour depth) c.args.cells.now
    (λ (old : Cell). c.requires.values ∙ cell_cleared-overwritten state colour depth old (c.requires.overwrites c.if-overwrites.true))
