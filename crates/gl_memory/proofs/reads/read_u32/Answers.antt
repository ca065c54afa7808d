use Rattle.std.proofs.Common.{arith}
use Rattle.gl_memory.specs.Number.{u32_at}
use Rattle.gl_memory.proofs.reads.read_u32.Goals as goal

pub returns : goal.returns
unfolding u32_at
returns g c = omega arith
