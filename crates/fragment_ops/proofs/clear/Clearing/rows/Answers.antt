use Rattle.std.proofs.Common.{◌≡◌, ℕ, ap, ◌∙◌, arith}
use Rattle.fragment_ops.specs.Cell.{cell_cleared}
use Rattle.fragment_ops.specs.Frame.{changed_from}
use Rattle.fragment_ops.specs.Rows.{in_area}
use Rattle.fragment_ops.proofs.Rows.{in_area-more, in_area-none, up_to}
use Rattle.fragment_ops.proofs.clear.Clearing.rows.Goals as goal

pub loop-row-init : goal.loop-row-init
loop-row-init c = in_area-none c.args.area (cell_cleared c.args.state.now c.args.self.colour c.args.self.depth) c.args.width c.args.cells.now

pub loop-row-preserved : goal.loop-row-preserved
loop-row-preserved c =
    let change = cell_cleared c.args.state.now c.args.self.colour c.args.self.depth in
    in_area-more c.args.area change c.args.width c.loop-row.row (omega arith) (omega arith) c.args.cells.now c.loop-row.cells c.run.new.cells (omega arith)
    c.loop-row.invariant c.run.ensures

pub returns : goal.returns
returns c =
    let change = cell_cleared c.args.state.now c.args.self.colour c.args.self.depth in
    let all : c.loop-row.row ≡ c.args.area.top = omega arith in
    c.loop-row.invariant ∙ ap (λ (n : ℕ). changed_from (in_area (up_to c.args.area n) change c.args.width) 0 c.args.cells.now) all
