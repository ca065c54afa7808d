use Rattle.std.proofs.Common.{arith}
use Rattle.gl_objects.proofs.Tables.{size_at-within}
use Rattle.gl_objects.proofs.table.Table.size_at.Goals as goal

pub returns-clause-within : goal.returns-clause-within
returns-clause-within g c = omega (arith, c.held_at.ensures, size_at-within g.T.Held.size c.args.name c.args.self.now)
