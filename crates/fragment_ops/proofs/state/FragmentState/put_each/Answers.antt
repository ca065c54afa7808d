use Rattle.std.proofs.Common.{◌≡◌, ℕ, ap, ◌∙◌, arith}
use Rattle.fragment_ops.specs.declared.cell.Cell.{Cell}
use Rattle.fragment_ops.specs.Frame.{changed_from}
use Rattle.fragment_ops.specs.Rows.{cell_tested, in_run}
use Rattle.fragment_ops.proofs.Rows.{in_run-more, in_run-none}
use Rattle.fragment_ops.proofs.state.FragmentState.put_each.Goals as goal

pub loop-at-init : goal.loop-at-init
loop-at-init c = in_run-none c.args.first (cell_tested c.args.self.now (record { depth = c.args.depth; colour = c.args.colour })) c.args.cells.now

pub loop-at-preserved : goal.loop-at-preserved
loop-at-preserved c =
    let change : Cell → Cell = cell_tested c.args.self.now (record { depth = c.args.depth; colour = c.args.colour }) in
    in_run-more c.args.first change c.args.cells.now c.loop-at.cells c.loop-at.at _ c.put_inside.result (omega arith) (omega arith) c.loop-at.invariant c.put_inside.ensures

pub returns : goal.returns
returns c =
    let change : Cell → Cell = cell_tested c.args.self.now (record { depth = c.args.depth; colour = c.args.colour }) in
    let all : c.loop-at.at ≡ c.args.until = omega arith in
    c.loop-at.invariant ∙ ap (λ (n : ℕ). changed_from (in_run c.args.first n change) 0 c.args.cells.now) all
