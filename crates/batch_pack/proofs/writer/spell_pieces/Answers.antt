use Rattle.std.proofs.Common.{ℕ, List, ◌++◌, ◌+◌, length, ap, sym, ◌∙◌, arith}
use Rattle.std.proofs.lemmas.List.{append_assoc, length-append}
use Rattle.gl_memory.specs.ClientMemory.{memory_of}
use Rattle.gl_memory.specs.Piece.{cut_out}
use Rattle.batch_pack.specs.Spelling.{segment_spelling}
use Rattle.batch_pack.proofs.SegmentLemmas.{length-segment_spelling}
use Rattle.batch_pack.proofs.Writing.{spelled_to, pieces-more, pieces-all, pieces-fit, segment_slots-cut_out}
use Rattle.batch_pack.proofs.writer.spell_pieces.Goals as goal

pub spell_piece-requires-clause-room : goal.spell_piece-requires-clause-room
spell_piece-requires-clause-room c =
    let bytes = c.args.bytes.now in
    let pieces = c.args.pieces.now in
    let segment = cut_out (memory_of bytes) c.at.result in
    let so_far = ap length c.loop-at.invariant.so_far ∙ length-append c.args.slots.now.items (spelled_to bytes pieces c.loop-at.at) in
    let more = ap length (pieces-more bytes pieces c.loop-at.at c.at.result c.at.ensures.piece) ∙ length-append (spelled_to bytes pieces c.loop-at.at) (segment_spelling segment) in
    let one = length-segment_spelling segment ∙ segment_slots-cut_out (memory_of bytes) c.at.result in
    omega (arith, pieces-fit bytes pieces (c.loop-at.at + 1), c.requires.room, c.loop-at.invariant.same_room)

pub loop-at-preserved : goal.loop-at-preserved
loop-at-preserved c =
    let bytes = c.args.bytes.now in
    let pieces = c.args.pieces.now in
    let old = c.args.slots.now.items in
    let segment = cut_out (memory_of bytes) c.at.result in
    record {
      so_far =
          c.spell_piece.ensures.spelled
          ∙ ap (λ (s : List ℕ). s ++ segment_spelling segment) c.loop-at.invariant.so_far
          ∙ append_assoc old (spelled_to bytes pieces c.loop-at.at) (segment_spelling segment)
          ∙ ap (λ (s : List ℕ). old ++ s) (sym (pieces-more bytes pieces c.loop-at.at c.at.result c.at.ensures.piece));
      same_room = c.spell_piece.ensures.same_room ∙ c.loop-at.invariant.same_room;
    }

pub returns-clause-spelled : goal.returns-clause-spelled
returns-clause-spelled c =
    c.loop-at.invariant.so_far
    ∙ ap (λ (s : List ℕ). c.args.slots.now.items ++ s) (pieces-all c.args.bytes.now c.args.pieces.now c.loop-at.at (omega (arith, c.len-at-end.ensures.len)))
