use Rattle.std.proofs.Common.{◌≡◌, length, vec_capacity}
use Rattle.gl_memory.specs.Piece.{bytes_from}
use Rattle.gl_state.proofs.ask.bytes_from.Given as goal

-- the bytes so far, in the room for all of them
abbrev pub invariant-loop-number : goal.invariant-loop-number
invariant-loop-number g l = record {
  items : l.bytes.items ≡ bytes_from (g.M.Memory.segments l.memory) l.source l.number;
  many : length l.bytes.items ≡ l.number;
  room : vec_capacity l.bytes ≡ l.size;
}
