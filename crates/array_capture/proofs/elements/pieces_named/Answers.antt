use Rattle.std.proofs.Common.{◌∙◌}
use Rattle.gl_memory.specs.ClientMemory.{memory_of}
use Rattle.gl_tracked.specs.Indices.{indices_at}
use Rattle.array_capture.proofs.Naming.{pieces_named-some}
use Rattle.array_capture.proofs.elements.pieces_named.Goals as goal

pub returns-in-Some-clause-pieces : goal.returns-in-Some-clause-pieces
returns-in-Some-clause-pieces c =
    let memory = memory_of c.args.memory.now in
    c.pieces_between.ensures.pieces
    ∙ pieces_named-some c.args.tracked.now memory c.ends_named.result c.in-Some.ends (indices_at memory c.args.kind c.args.indices c.args.count) c.in-Some.is c.ends_named.ensures.ends
