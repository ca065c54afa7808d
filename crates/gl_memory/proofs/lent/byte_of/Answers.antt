use Rattle.gl_memory.proofs.SlotBytes.{slice_get-bytes_of_slots}
use Rattle.gl_memory.proofs.lent.byte_of.Goals as goal

pub returns : goal.returns
returns c = slice_get-bytes_of_slots c.args.slots.now c.args.number c.requires.there
