use Rattle.std.proofs.Common.{w32, to_z, of_z, ap, ◌∙◌}
use Rattle.std.proofs.lemmas.Int.{to_z-of_z}
use Rattle.gl_tracked.specs.Ranges.{range_of_image}
use Rattle.array_capture.specs.Pieces.{pieces_of_subimage}
use Rattle.array_capture.proofs.Drawing.{range_pushed}
use Rattle.array_capture.proofs.image.pieces_of_subimage.Goals as goal

pub returns : goal.returns
unfolding pieces_of_subimage
returns c =
    range_pushed c.new-pieces.result c.push_part.new.pieces c.range_of_image.result (range_of_image c.args.tracked.now c.args.format c.args.width c.args.height c.args.pixels) c.len.result c.args.memory.now
    c.new-pieces.ensures
    (c.range_of_image.ensures
    ∙ ap (λ width. range_of_image c.args.tracked.now c.args.format width (to_z w32 (of_z w32 c.args.height)) c.args.pixels) (to_z-of_z w32 c.args.width c.ranges.width)
    ∙ ap (λ height. range_of_image c.args.tracked.now c.args.format c.args.width height c.args.pixels) (to_z-of_z w32 c.args.height c.ranges.height))
    c.len.ensures.len c.push_part.ensures.part
