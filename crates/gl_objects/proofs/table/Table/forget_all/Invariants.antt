use Rattle.std.proofs.Common.{◌≡◌, take}
use Rattle.gl_objects.specs.Table.{without}
use Rattle.gl_objects.proofs.table.Table.forget_all.Given as goal

abbrev pub invariant-loop-name : goal.invariant-loop-name
invariant-loop-name g l = l.self ≡ without (take l.name-index l.names) l.initial.self
