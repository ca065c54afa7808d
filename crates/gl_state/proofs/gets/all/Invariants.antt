use Rattle.std.proofs.Common.{◌≡◌, take}
use Rattle.gl_state.proofs.gets.all.Given as goal

-- the numbers so far
abbrev pub invariant-loop-value : goal.invariant-loop-value
invariant-loop-value l = l.numbers ≡ record { items = take l.value-index l.values; room = l.fn.room.room }
