use Rattle.gl_memory.proofs.Cuts.{cut_agrees}
use Rattle.gl_memory.proofs.laws.cut_law.Goals as goal

pub returns : goal.returns
returns g c = cut_agrees (g.M.Memory.segments c.args.memory.now) c.args.pieces.now
