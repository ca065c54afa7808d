use Rattle.std.proofs.Common.{ℕ, List, [], ◌++◌, ◌∷◌, ◌*◌, length, map, ap, ◌∙◌, arith}
use Rattle.std.specs.List.{range_with_len}
use Rattle.std.proofs.lemmas.List.{append_assoc, length-append}
use Rattle.std.proofs.lemmas.List.FromFn.{length-map-range_with_len}
use Rattle.gl_memory.specs.ClientMemory.{memory_of}
use Rattle.gl_memory.specs.Piece.{bytes_from}
use Rattle.batch_pack.specs.Spelling.{slot_at}
use Rattle.batch_pack.proofs.Writing.{words-more, piece-spelling}
use Rattle.batch_pack.proofs.writer.spell_piece.Goals as goal

pub push_reserved-requires-in-loop-number : goal.push_reserved-requires-in-loop-number
push_reserved-requires-in-loop-number c =
    let word = λ (number : ℕ). slot_at (bytes_from (memory_of c.args.bytes.now) c.args.piece.start c.args.piece.len) (8 * number) in
    let words = map word (range_with_len 0 c.loop-number.number) in
    let so_far = ap length c.loop-number.invariant.so_far ∙ length-append c.args.slots.now.items (c.args.piece.start ∷ c.args.piece.len ∷ words) in
    let many = length-map-range_with_len word 0 c.loop-number.number in
    omega (arith, c.loop-number.slots.ok, c.words_of-number-end.ensures.count, c.loop-number.invariant.same_room, c.requires.room)

pub loop-number-preserved : goal.loop-number-preserved
loop-number-preserved c =
    let word = λ (number : ℕ). slot_at (bytes_from (memory_of c.args.bytes.now) c.args.piece.start c.args.piece.len) (8 * number) in
    let words = map word (range_with_len 0 c.loop-number.number) in
    let old = c.args.slots.now.items in
    record {
      so_far =
          c.push_reserved-in-loop-number.ensures.items
          ∙ ap (λ (s : List ℕ). s ++ c.word_of.result ∷ []) c.loop-number.invariant.so_far
          ∙ ap (λ (n : ℕ). (old ++ c.args.piece.start ∷ c.args.piece.len ∷ words) ++ n ∷ []) c.word_of.ensures
          ∙ append_assoc old (c.args.piece.start ∷ c.args.piece.len ∷ words) (word c.loop-number.number ∷ [])
          ∙ ap (λ (s : List ℕ). old ++ c.args.piece.start ∷ c.args.piece.len ∷ s) (words-more [] word c.loop-number.number);
      same_room = c.push_reserved-in-loop-number.ensures.capacity ∙ c.loop-number.invariant.same_room;
    }

pub returns-clause-spelled : goal.returns-clause-spelled
returns-clause-spelled c =
    c.loop-number.invariant.so_far
    ∙ ap (λ (s : List ℕ). c.args.slots.now.items ++ s) (piece-spelling c.args.bytes.now c.args.piece c.loop-number.number (omega (arith, c.words_of-number-end.ensures.count)))
