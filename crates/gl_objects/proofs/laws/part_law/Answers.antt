use Rattle.gl_objects.proofs.Parts.{writes_part}
use Rattle.gl_objects.proofs.laws.part_law.Goals as goal

pub returns : goal.returns
returns c = writes_part
