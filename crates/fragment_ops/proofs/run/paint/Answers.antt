use Rattle.std.proofs.Common.{◌≡◌, ℕ, refl, ap, ◌∙◌, arith}
use Rattle.fragment_ops.specs.Frame.{changed_from}
use Rattle.fragment_ops.specs.Rows.{cell_painted, in_run}
use Rattle.fragment_ops.proofs.Rows.{in_run-more, in_run-none}
use Rattle.fragment_ops.proofs.run.paint.Goals as goal

pub loop-at-init : goal.loop-at-init
loop-at-init c = in_run-none c.args.first (cell_painted c.args.colour) c.args.cells.now

pub loop-at-preserved : goal.loop-at-preserved
unfolding cell_painted
loop-at-preserved c =
    in_run-more c.args.first (cell_painted c.args.colour) c.args.cells.now c.loop-at.cells c.loop-at.at _ _ (omega arith) (omega arith) c.loop-at.invariant refl

pub returns : goal.returns
returns c =
    let all : c.loop-at.at ≡ c.args.until = omega arith in
    c.loop-at.invariant ∙ ap (λ (n : ℕ). changed_from (in_run c.args.first n (cell_painted c.args.colour)) 0 c.args.cells.now) all
