use Rattle.std.proofs.Common.{ap, ◌∙◌}
use Rattle.gl_memory.specs.ClientMemory.{memory_of}
use Rattle.gl_tracked.specs.declared.tracked.Tracked.{Tracked}
use Rattle.driver_trait.specs.Output.{memory_after}
use Rattle.driver_trait.specs.Reply.{replied}
use Rattle.script_trace.proofs.Meeting.{memory_after-noted}
use Rattle.script_trace.proofs.here.note.Goals as goal

pub returns-clause-memory : goal.returns-clause-memory
returns-clause-memory c =
    let reply = replied c.args.reply.now in
    c.write_reply.ensures
    ∙ ap (λ (t : Tracked). memory_after t c.args.call.now reply c.args.memory.now) (c.tracked.ensures.tracked ∙ c.note.ensures)
    ∙ memory_after-noted c.args.shadow.now c.args.call.now (memory_of c.args.memory.now) reply c.args.memory.now
