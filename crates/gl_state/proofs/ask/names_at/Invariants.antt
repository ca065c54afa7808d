use Rattle.std.proofs.Common.{◌≡◌, length, vec_capacity}
use Rattle.gl_tracked.specs.Names.{names_at}
use Rattle.gl_state.proofs.ask.names_at.Given as goal

-- the names so far, in the room for all of them
abbrev pub invariant-loop-number : goal.invariant-loop-number
invariant-loop-number g l = record {
  items : l.names.items ≡ names_at (g.M.Memory.segments l.memory) l.place l.number;
  many : length l.names.items ≡ l.number;
  room : vec_capacity l.names ≡ l.count;
}
