use Rattle.script_trace.proofs.Causes.{cause_law_holds}
use Rattle.script_trace.proofs.laws.cause_law.Goals as goal

pub returns : goal.returns
returns c = cause_law_holds
