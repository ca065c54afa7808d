use Rattle.gl_memory.proofs.Writing.{reads_back}
use Rattle.gl_memory.proofs.laws.write_law.Goals as goal

pub returns : goal.returns
returns c = reads_back c.args.memory.now c.args.at c.args.bytes.now
