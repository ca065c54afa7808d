use Rattle.gl_memory.proofs.Bytes.{AreBytes-memory_of}
use Rattle.gl_memory.proofs.client_memory.are_bytes.Goals as goal

pub returns : goal.returns
returns c = AreBytes-memory_of c.args.bytes.now (λ place. (c.type_inv.bytes place).fits)
