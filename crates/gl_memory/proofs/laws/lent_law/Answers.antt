use Rattle.gl_memory.proofs.SlotBytes.{length-lent}
use Rattle.gl_memory.proofs.laws.lent_law.Goals as goal

pub returns : goal.returns
returns c = length-lent c.args.slots.now
