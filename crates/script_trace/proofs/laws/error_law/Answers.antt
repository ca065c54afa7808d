use Rattle.script_trace.proofs.Recording.{error_law_holds}
use Rattle.script_trace.proofs.laws.error_law.Goals as goal

pub returns : goal.returns
returns c = error_law_holds
