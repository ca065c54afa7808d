use Rattle.std.proofs.Common.{◌≡◌, ◌-◌}
use Rattle.gl_objects.proofs.FreeNames.{free_of}
use Rattle.gl_objects.proofs.table.Table.least_free.Given as goal

abbrev pub invariant-loop-name : goal.invariant-loop-name
invariant-loop-name g l = l.names.items ≡ free_of l.self l.n (l.name - 1)
