use Rattle.gl_tracked.specs.Ranges.{range_of_matrix}
use Rattle.array_capture.specs.Pieces.{pieces_of_matrix}
use Rattle.array_capture.proofs.Drawing.{range_pushed}
use Rattle.array_capture.proofs.matrix.pieces_of_matrix.Goals as goal

pub returns : goal.returns
unfolding pieces_of_matrix
returns c =
    range_pushed c.new-pieces.result c.push_part.new.pieces c.range_of_matrix.result (range_of_matrix c.args.pointer) c.len.result c.args.memory.now
    c.new-pieces.ensures c.range_of_matrix.ensures c.len.ensures.len c.push_part.ensures.part
