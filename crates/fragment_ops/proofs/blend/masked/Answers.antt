use Rattle.std.proofs.Common.{arith}
use Rattle.fragment_ops.proofs.Keeping.{masked-all_on}
use Rattle.fragment_ops.proofs.blend.masked.Goals as goal

pub returns-then-all_on : goal.returns-then-all_on
returns-then-all_on c = masked-all_on c.args.mask c.args.new c.args.old (omega arith) (c.all_on.ensures c.if-all_on.true)
