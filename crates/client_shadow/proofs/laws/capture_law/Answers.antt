use Rattle.client_shadow.proofs.Capturing.{captured_agrees}
use Rattle.client_shadow.proofs.laws.capture_law.Goals as goal

pub returns : goal.returns
returns c = λ tracked call memory slots class. captured_agrees tracked call memory slots class
