use Rattle.std.proofs.Common.{◌≡◌, ◌++◌, map, take}
use Rattle.std.specs.Vec.{vec_capacity}
use Rattle.gl_words.specs.Slots.{slot_of}
use Rattle.batch_pack.proofs.writer.spell_arguments.Given as goal

abbrev pub invariant-loop-number : goal.invariant-loop-number
invariant-loop-number l = record {
  so_far : l.slots.items ≡ l.fn.slots.items ++ map slot_of (take l.number-index l.numbers);
  same_room : vec_capacity l.slots ≡ vec_capacity l.fn.slots;
}
