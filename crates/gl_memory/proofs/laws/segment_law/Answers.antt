use Rattle.gl_memory.proofs.Bytes.{reads_first}
use Rattle.gl_memory.proofs.laws.segment_law.Goals as goal

pub returns : goal.returns
returns g c = λ first others place e. reads_first first others place
