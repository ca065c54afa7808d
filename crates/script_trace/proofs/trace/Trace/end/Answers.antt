use Rattle.std.proofs.Common.{ap, ◌∙◌}
use Rattle.script_trace.specs.OpenBatch.{end_of_batch}
use Rattle.script_trace.specs.declared.fate.Why.TheVariants.{NoMore}
use Rattle.script_trace.specs.declared.open_batch.OpenBatch.{OpenBatch}
use Rattle.script_trace.proofs.Going.{last_here}
use Rattle.script_trace.proofs.trace.Trace.end.Goals as goal

pub returns : goal.returns
returns c =
    rw (← c.self.view_is)
    (λ none. c.end.ensures ∙ ap (λ (b : OpenBatch). end_of_batch b NoMore) c.batch.ensures ∙ last_here c.self.inside.here c.self.inside.lines.now none)
