use Rattle.std.proofs.Common.{ap, ◌∙◌}
use Rattle.script_trace.specs.Entries.{TraceView, behind_next, next_entry}
use Rattle.script_trace.proofs.Going.{ended_behind, ended_next, nil_from_short}
use Rattle.script_trace.proofs.trace.Trace.next.Goals as goal

pub returns-clause-next : goal.returns-clause-next
returns-clause-next g c =
    let here = c.loop-self.self-inside.here in
    let lines = c.loop-self.self-inside.lines.now in
    ended_next here lines (nil_from_short lines c.in_default.len_below) ∙ ap (λ (t : TraceView). next_entry t) c.loop-self.invariant.same

pub returns-clause-left : goal.returns-clause-left
returns-clause-left g c =
    let here = c.loop-self.self-inside.here in
    let lines = c.loop-self.self-inside.lines.now in
    ended_behind here lines (nil_from_short lines c.in_default.len_below) ∙ ap (λ (t : TraceView). behind_next t) c.loop-self.invariant.same
