use Rattle.std.proofs.Common.{◌≡◌, w32, sym, ap, ◌∙◌}
use Rattle.std.proofs.lemmas.Int.{to_z-of_z}
use Rattle.gl_tracked.specs.Count.{count_drawn}
use Rattle.array_capture.proofs.Naming.{pieces_of_elements-pushed}
use Rattle.array_capture.proofs.elements.pieces_of_elements.Goals as goal

pub returns : goal.returns
returns c =
    let drawn : c.count_drawn-count.result ≡ count_drawn c.args.count = c.count_drawn-count.ensures.count ∙ ap count_drawn (to_z-of_z w32 c.args.count c.ranges.count) in
    pieces_of_elements-pushed c.args.tracked.now c.args.count c.args.kind c.args.indices c.args.memory.now c.count_drawn-count.result c.len.result
    c.pieces_named-pieces.result c.push_part.new.pieces c.range_of_indices.result
    (sym c.if-not-takes_indices.ensures) drawn c.pieces_named-pieces.ensures.pieces c.range_of_indices.ensures c.len.ensures.len c.push_part.ensures.part
