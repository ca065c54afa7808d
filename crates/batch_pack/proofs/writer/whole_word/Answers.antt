use Rattle.std.proofs.Common.{◌≡◌, slice_index, ap, ◌∙◌, arith}
use Rattle.gl_memory.specs.ClientMemory.{memory_of}
use Rattle.gl_memory.specs.Piece.{bytes_from}
use Rattle.batch_pack.proofs.Writing.{slice_index-piece}
use Rattle.batch_pack.proofs.writer.whole_word.Goals as goal

pub returns : goal.returns
returns c =
    let bytes = c.args.bytes.now in
    let at = c.args.at in
    let first : slice_index (bytes_from (memory_of bytes) at 8) 0 ≡ slice_index bytes at = slice_index-piece bytes at 8 0 (omega arith) ∙ ap (slice_index bytes) (omega arith) in
    omega (arith, slice_index-piece bytes at 8 1 (omega arith), slice_index-piece bytes at 8 2 (omega arith), slice_index-piece bytes at 8 3 (omega arith), slice_index-piece bytes at 8 4 (omega arith), slice_index-piece bytes at 8 5 (omega arith), slice_index-piece bytes at 8 6 (omega arith), slice_index-piece bytes at 8 7 (omega arith))
