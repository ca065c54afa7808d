use Rattle.std.proofs.Common.{◌≡◌, ◌++◌, take, vec_capacity}
use Rattle.batch_rail.proofs.journal.copy.Given as goal

abbrev pub invariant-loop-slot : goal.invariant-loop-slot
invariant-loop-slot l = record {
  items : l.all.items ≡ l.fn.all.items ++ take l.slot-index l.slots;
  same_room : vec_capacity l.all ≡ vec_capacity l.fn.all;
}
