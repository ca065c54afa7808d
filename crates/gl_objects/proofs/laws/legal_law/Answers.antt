use Rattle.gl_objects.proofs.Histories.{splits_legally}
use Rattle.gl_objects.proofs.laws.legal_law.Goals as goal

pub returns : goal.returns
returns c = splits_legally
