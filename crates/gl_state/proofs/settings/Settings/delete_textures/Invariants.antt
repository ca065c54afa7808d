use Rattle.std.proofs.Common.{◌≡◌}
use Rattle.gl_tracked.specs.Names.{names_at}
use Rattle.gl_state.specs.Settings.{without_textures}
use Rattle.gl_state.proofs.settings.Settings.delete_textures.Given as goal

-- the names so far are forgotten
abbrev pub invariant-loop-number : goal.invariant-loop-number
invariant-loop-number g l = l.self ≡ without_textures (names_at (g.M.Memory.segments l.memory) l.names l.number) l.fn.self
