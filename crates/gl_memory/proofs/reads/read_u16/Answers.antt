use Rattle.std.proofs.Common.{arith}
use Rattle.gl_memory.specs.Number.{u16_at}
use Rattle.gl_memory.proofs.reads.read_u16.Goals as goal

pub returns : goal.returns
unfolding u16_at
returns g c = omega arith
