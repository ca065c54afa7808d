use Rattle.std.proofs.Common.{◌≡◌, take}
use Rattle.gl_objects.specs.Table.{given}
use Rattle.gl_objects.proofs.table.Table.give_all.Given as goal

abbrev pub invariant-loop-name : goal.invariant-loop-name
invariant-loop-name g l = l.self ≡ given (take l.name-index l.names) l.initial.self
