use Rattle.std.proofs.Common.{w32, ap, ◌∙◌}
use Rattle.std.proofs.lemmas.Int.{to_z-of_z}
use Rattle.gl_tracked.specs.Ranges.{range_of_names}
use Rattle.array_capture.specs.Pieces.{pieces_of_names}
use Rattle.array_capture.proofs.Drawing.{range_pushed}
use Rattle.array_capture.proofs.bytes.pieces_of_names.Goals as goal

pub returns : goal.returns
unfolding pieces_of_names
returns c =
    range_pushed c.new-pieces.result c.push_part.new.pieces c.range_of_names.result (range_of_names c.args.names c.args.n) c.len.result c.args.memory.now
    c.new-pieces.ensures (c.range_of_names.ensures ∙ ap (range_of_names c.args.names) (to_z-of_z w32 c.args.n c.ranges.n)) c.len.ensures.len c.push_part.ensures.part
