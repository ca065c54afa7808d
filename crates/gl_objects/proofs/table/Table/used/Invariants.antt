use Rattle.gl_objects.specs.Table.{AreUsed}
use Rattle.gl_objects.proofs.table.Table.used.Given as goal

abbrev pub invariant-loop-used : goal.invariant-loop-used
invariant-loop-used g l = AreUsed l.self l.used
