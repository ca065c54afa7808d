use Rattle.std.proofs.Common.{◌*◌, sym, ◌∙◌, arith}
use Rattle.batch_pack.proofs.SegmentLemmas.{slots_for-holds}
use Rattle.batch_pack.proofs.Writing.{slot_at-piece}
use Rattle.batch_pack.proofs.writer.word_of.Goals as goal

pub overflow_mul-at : goal.overflow_mul-at
overflow_mul-at c = omega (arith, slots_for-holds c.args.piece.len)

pub overflow_add-at : goal.overflow_add-at
overflow_add-at c = omega (arith, slots_for-holds c.args.piece.len)

pub overflow_mul-number : goal.overflow_mul-number
overflow_mul-number c = omega (arith, slots_for-holds c.args.piece.len)

pub overflow_sub-piece : goal.overflow_sub-piece
overflow_sub-piece c = omega (arith, slots_for-holds c.args.piece.len)

pub returns-then-at-bytes : goal.returns-then-at-bytes
returns-then-at-bytes c =
    let holds = slots_for-holds c.args.piece.len in
    c.whole_word.ensures
    ∙ sym (slot_at-piece c.args.bytes.now c.args.piece.start c.args.piece.len (8 * c.args.number) 8 (omega arith) (omega arith))

pub returns-else-count-eq8 : goal.returns-else-count-eq8
returns-else-count-eq8 c =
    let holds = slots_for-holds c.args.piece.len in
    c.partial_word.ensures
    ∙ sym (slot_at-piece c.args.bytes.now c.args.piece.start c.args.piece.len (8 * c.args.number) c.min-count.result (omega arith) (omega arith))
