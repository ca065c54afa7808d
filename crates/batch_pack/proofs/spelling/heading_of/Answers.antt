use Rattle.std.proofs.Common.{ℕ, List, ◌+◌, length, take, ap, sym, ◌∙◌, arith}
use Rattle.std.specs.List.{sum_by}
use Rattle.std.proofs.lemmas.List.{take_all}
use Rattle.gl_memory.specs.declared.piece.Piece.{Piece}
use Rattle.gl_words.specs.Call.{arguments}
use Rattle.gl_words.proofs.Counts.{row_count}
use Rattle.batch_pack.proofs.Writing.{piece_slots_of, slots_of-captured}
use Rattle.batch_pack.proofs.spelling.heading_of.Goals as goal

pub returns : goal.returns
returns c = λ call bytes row. record {
  id = row.same_id;
  slots =
      c.loop-at.invariant.so_far
      ∙ ap (λ (n : ℕ). 1 + n + sum_by piece_slots_of (take c.loop-at.at c.args.pieces.now)) (row_count c.args.row.now call row)
      ∙ ap (λ (pieces : List Piece). 1 + length (arguments call) + sum_by piece_slots_of pieces) (take_all c.loop-at.at c.args.pieces.now (omega (arith, c.len-at-end.ensures.len)))
      ∙ sym (slots_of-captured call c.args.pieces.now bytes);
}
