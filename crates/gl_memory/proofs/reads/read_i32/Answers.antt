use Rattle.std.proofs.Common.{rules}
use Rattle.gl_memory.specs.Number.{i32_at}
use Rattle.gl_memory.proofs.reads.read_i32.Goals as goal

pub returns : goal.returns
unfolding i32_at
returns g c = search rules
