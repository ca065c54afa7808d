use Rattle.std.proofs.Common.{◌≡◌, ℕ, ap, ◌∙◌, arith}
use Rattle.fragment_ops.specs.Cell.{cell_cleared}
use Rattle.fragment_ops.specs.Frame.{changed_from}
use Rattle.fragment_ops.specs.Rows.{in_run}
use Rattle.fragment_ops.proofs.Rows.{in_run-more, in_run-none}
use Rattle.fragment_ops.proofs.clear.Clearing.each.Goals as goal

pub loop-at-init : goal.loop-at-init
loop-at-init c = in_run-none c.args.first (cell_cleared c.args.state.now c.args.self.colour c.args.self.depth) c.args.cells.now

pub loop-at-preserved : goal.loop-at-preserved
loop-at-preserved c =
    let change = cell_cleared c.args.state.now c.args.self.colour c.args.self.depth in
    in_run-more c.args.first change c.args.cells.now c.loop-at.cells c.loop-at.at _ c.cleared.result (omega arith) (omega arith) c.loop-at.invariant c.cleared.ensures

pub returns : goal.returns
returns c =
    let change = cell_cleared c.args.state.now c.args.self.colour c.args.self.depth in
    let all : c.loop-at.at ≡ c.args.until = omega arith in
    c.loop-at.invariant ∙ ap (λ (n : ℕ). changed_from (in_run c.args.first n change) 0 c.args.cells.now) all
