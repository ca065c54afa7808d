use Rattle.gl_tracked.specs.Ranges.{range_of_colour}
use Rattle.array_capture.specs.Pieces.{pieces_of_colour}
use Rattle.array_capture.proofs.Drawing.{range_pushed}
use Rattle.array_capture.proofs.image.pieces_of_colour.Goals as goal

pub returns : goal.returns
unfolding pieces_of_colour
returns c =
    range_pushed c.new-pieces.result c.push_part.new.pieces c.range_of_colour.result (range_of_colour c.args.pointer) c.len.result c.args.memory.now
    c.new-pieces.ensures c.range_of_colour.ensures c.len.ensures.len c.push_part.ensures.part
