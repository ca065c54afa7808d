use Rattle.std.proofs.Common.{◌≡◌, ◌≤◌, ◌+◌, ◌*◌, ◌^◌, length, take}
use Rattle.std.specs.List.{sum_by}
use Rattle.batch_pack.proofs.Writing.{piece_slots_of}
use Rattle.batch_pack.proofs.spelling.heading_of.Given as goal

abbrev pub invariant-loop-at : goal.invariant-loop-at
invariant-loop-at l = record {
  so_far : l.slots ≡ 1 + length l.row.kinds.now + sum_by piece_slots_of (take l.at l.pieces);
  few : l.slots ≤ 10 + 2 ^ 60 * l.at;
}
