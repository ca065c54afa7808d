use Rattle.script_trace.proofs.Tracing.{trace_law_holds}
use Rattle.script_trace.proofs.laws.trace_law.Goals as goal

pub returns : goal.returns
returns c = trace_law_holds
