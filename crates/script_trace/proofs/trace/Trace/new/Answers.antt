use Rattle.std.proofs.Common.{ap}
use Rattle.script_trace.specs.Entries.{HereView, trace_here, trace_of}
use Rattle.script_trace.proofs.trace.Trace.new.Goals as goal

pub returns : goal.returns
unfolding trace_of
returns c = ap (λ (h : HereView). trace_here h c.args.lines.now) c.in_ok-here.ensures
