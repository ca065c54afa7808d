use Rattle.gl_objects.proofs.Histories.{same_changes}
use Rattle.gl_objects.proofs.laws.asking_law.Goals as goal

pub returns : goal.returns
returns c = same_changes
