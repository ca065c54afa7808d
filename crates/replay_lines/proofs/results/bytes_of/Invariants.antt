use Rattle.std.proofs.Common.{◌≡◌}
use Rattle.gl_memory.specs.ClientMemory.{memory_of}
use Rattle.gl_memory.specs.Piece.{bytes_from}
use Rattle.replay_lines.proofs.results.bytes_of.Given as goal

-- the bytes so far, in a room for all
abbrev pub invariant-loop-place : goal.invariant-loop-place
invariant-loop-place l = l.image ≡ record { items = bytes_from (memory_of l.memory) l.at l.place; room = l.count }
