use Rattle.fragment_ops.proofs.Places.{frame_changed-each}
use Rattle.fragment_ops.proofs.laws.frame_law.Goals as goal

pub returns : goal.returns
returns c = λ change. frame_changed-each change c.args.frame.now c.cells-cells.ensures.whole
