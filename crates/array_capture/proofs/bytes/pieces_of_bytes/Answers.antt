use Rattle.std.proofs.Common.{w32, ap, ◌∙◌}
use Rattle.std.proofs.lemmas.Int.{to_z-of_z}
use Rattle.gl_tracked.specs.Ranges.{range_of_bytes}
use Rattle.array_capture.specs.Pieces.{pieces_of_bytes}
use Rattle.array_capture.proofs.Drawing.{range_pushed}
use Rattle.array_capture.proofs.bytes.pieces_of_bytes.Goals as goal

pub returns : goal.returns
unfolding pieces_of_bytes
returns c =
    range_pushed c.new-pieces.result c.push_part.new.pieces c.range_of_bytes.result (range_of_bytes c.args.source c.args.size) c.len.result c.args.memory.now
    c.new-pieces.ensures (c.range_of_bytes.ensures ∙ ap (range_of_bytes c.args.source) (to_z-of_z w32 c.args.size c.ranges.size)) c.len.ensures.len c.push_part.ensures.part
