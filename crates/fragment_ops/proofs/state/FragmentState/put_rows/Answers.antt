use Rattle.std.proofs.Common.{◌≡◌, ℕ, ap, ◌∙◌, arith}
use Rattle.fragment_ops.specs.declared.cell.Cell.{Cell}
use Rattle.fragment_ops.specs.Frame.{changed_from}
use Rattle.fragment_ops.specs.Rows.{cell_tested, in_area}
use Rattle.fragment_ops.proofs.Rows.{in_area-more, in_area-none, up_to}
use Rattle.fragment_ops.proofs.state.FragmentState.put_rows.Goals as goal

pub loop-row-init : goal.loop-row-init
loop-row-init c =
    let change : Cell → Cell = cell_tested c.args.self.now (record { depth = c.args.depth; colour = c.args.colour }) in
    in_area-none c.args.area change c.args.width c.args.cells.now

pub loop-row-preserved : goal.loop-row-preserved
loop-row-preserved c =
    let change : Cell → Cell = cell_tested c.args.self.now (record { depth = c.args.depth; colour = c.args.colour }) in
    in_area-more c.args.area change c.args.width c.loop-row.row (omega arith) (omega arith) c.args.cells.now c.loop-row.cells c.put_cells.new.cells (omega arith)
    c.loop-row.invariant c.put_cells.ensures

pub returns : goal.returns
returns c =
    let change : Cell → Cell = cell_tested c.args.self.now (record { depth = c.args.depth; colour = c.args.colour }) in
    let all : c.loop-row.row ≡ c.args.area.top = omega arith in
    c.loop-row.invariant ∙ ap (λ (n : ℕ). changed_from (in_area (up_to c.args.area n) change c.args.width) 0 c.args.cells.now) all
