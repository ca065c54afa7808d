use Rattle.std.proofs.Common.{◌≡◌, ◌++◌}
use Rattle.std.specs.Vec.{vec_capacity}
use Rattle.batch_pack.proofs.Writing.{spelled_to}
use Rattle.batch_pack.proofs.writer.spell_pieces.Given as goal

abbrev pub invariant-loop-at : goal.invariant-loop-at
invariant-loop-at l = record {
  so_far : l.slots.items ≡ l.fn.slots.items ++ spelled_to l.bytes l.pieces l.at;
  same_room : vec_capacity l.slots ≡ vec_capacity l.fn.slots;
}
