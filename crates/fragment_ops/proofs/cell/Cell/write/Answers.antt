use Rattle.std.proofs.Common.{ℕ, List, ap, arith}
use Rattle.fragment_ops.proofs.Laying.{four_written}
use Rattle.fragment_ops.proofs.cell.Cell.write.Goals as goal

pub returns : goal.returns
returns c = ap (λ (l : List ℕ). record { colour = l; depth = c.args.depth }) (four_written c.args.self.now.colour c.args.colour (omega arith) (omega arith))
