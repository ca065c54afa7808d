use Rattle.std.proofs.Common.{◌≡◌, ◌+◌, ◌++◌, length, vec_capacity}
use Rattle.gl_memory.specs.Piece.{bytes_from}
use Rattle.gl_state.proofs.images.add_row.Given as goal

-- the bytes so far stand behind the others, in the room for all of them
abbrev pub invariant-loop-number : goal.invariant-loop-number
invariant-loop-number g l = record {
  items : l.bytes.items ≡ l.fn.bytes.items ++ bytes_from (g.M.Memory.segments l.memory) l.begin l.number;
  many : length l.bytes.items ≡ length l.fn.bytes.items + l.number;
  room : vec_capacity l.bytes ≡ vec_capacity l.fn.bytes;
}
