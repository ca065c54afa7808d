use Rattle.std.proofs.Common.{◌≡◌, pos, map, take}
use Rattle.gl_state.proofs.gets.all_names.Given as goal

-- the names so far
abbrev pub invariant-loop-name : goal.invariant-loop-name
invariant-loop-name l = l.numbers ≡ record { items = map pos (take l.name-index l.names); room = l.fn.room.room }
