use Rattle.std.proofs.Common.{◌≡◌, ◌++◌, ◌∷◌, ◌*◌, map}
use Rattle.std.specs.List.{range_with_len}
use Rattle.std.specs.Vec.{vec_capacity}
use Rattle.gl_memory.specs.ClientMemory.{memory_of}
use Rattle.gl_memory.specs.Piece.{bytes_from}
use Rattle.batch_pack.specs.Spelling.{slot_at}
use Rattle.batch_pack.proofs.writer.spell_piece.Given as goal

abbrev pub invariant-loop-number : goal.invariant-loop-number
invariant-loop-number l = record {
  so_far : l.slots.items
      ≡ (l.fn.slots.items ++ l.piece.start ∷ l.piece.len ∷ map (λ number. slot_at (bytes_from (memory_of l.bytes) l.piece.start l.piece.len) (8 * number)) (range_with_len 0 l.number));
  same_room : vec_capacity l.slots ≡ vec_capacity l.fn.slots;
}
