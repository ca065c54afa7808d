use Rattle.std.proofs.Common.{◌≡◌, ◌*◌, length, vec_capacity}
use Rattle.gl_state.specs.Images.{rows_from}
use Rattle.gl_state.proofs.images.rows_from.Given as goal

-- the rows so far, in the room for all of them
abbrev pub invariant-loop-row : goal.invariant-loop-row
invariant-loop-row g l = record {
  items : l.bytes.items ≡ rows_from (g.M.Memory.segments l.memory) l.source l.pitch l.run l.row;
  many : length l.bytes.items ≡ l.row * l.run;
  room : vec_capacity l.bytes ≡ l.rows * l.run;
}
