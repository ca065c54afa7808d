use Rattle.std.proofs.Common.{◌≡◌}
use Rattle.gl_tracked.specs.Names.{names_at, without_buffers}
use Rattle.gl_tracked.proofs.tracked.Tracked.delete_buffers.Given as goal

-- the names so far are forgotten
abbrev pub invariant-loop-number : goal.invariant-loop-number
invariant-loop-number g l = l.self ≡ without_buffers (names_at (g.M.Memory.segments l.memory) l.names l.number) l.fn.self
