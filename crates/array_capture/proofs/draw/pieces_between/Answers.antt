use Rattle.std.proofs.Common.{sym, ◌∙◌}
use Rattle.gl_memory.specs.ClientMemory.{memory_of}
use Rattle.array_capture.proofs.Drawing.{pieces_between-disabled, pieces_between-pushed}
use Rattle.array_capture.proofs.draw.pieces_between.Goals as goal

pub returns-then-tracked-clause-pieces : goal.returns-then-tracked-clause-pieces
returns-then-tracked-clause-pieces c =
    pieces_between-pushed c.args.tracked.now c.args.least c.args.greatest c.len.result c.args.memory.now c.new-pieces.result c.push_spans.new.pieces c.as_slice.result.now
    c.if-tracked.true c.new-pieces.ensures c.len.ensures.len (c.as_slice.ensures ∙ c.arrays_in_order-arrays.ensures.arrays) c.push_spans.ensures.spans

pub returns-else-tracked-clause-pieces : goal.returns-else-tracked-clause-pieces
returns-else-tracked-clause-pieces c =
    c.new-pieces.ensures ∙ sym (pieces_between-disabled c.args.tracked.now c.args.least c.args.greatest (memory_of c.args.memory.now) c.if-tracked.false)
