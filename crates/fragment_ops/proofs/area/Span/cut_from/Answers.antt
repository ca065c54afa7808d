use Rattle.std.proofs.Common.{arith}
use Rattle.std.proofs.lemmas.Int.{ints}
use Rattle.fragment_ops.proofs.Scissors.{cut_in_order}
use Rattle.fragment_ops.proofs.area.Span.cut_from.Goals as goal

pub returns-clause-ordered : goal.returns-clause-ordered
returns-clause-ordered c = cut_in_order c.cut.result c.cut-2.result c.args.most _ _ (omega (arith, ints)) c.cut.ensures.few c.cut.ensures.before c.cut-2.ensures.before
