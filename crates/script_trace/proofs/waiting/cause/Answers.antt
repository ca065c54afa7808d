use Rattle.std.proofs.Common.{Some, ap, ◌∙◌}
use Rattle.gl_memory.specs.ClientMemory.{memory_of}
use Rattle.script_trace.specs.declared.fate.Cause.{Cause}
use Rattle.script_trace.proofs.Causes.{cause_of-found}
use Rattle.script_trace.proofs.waiting.cause.Goals as goal

pub returns-in-Answer : goal.returns-in-Answer
returns-in-Answer c = cause_of-found c.args.shadow.now c.args.call.now (memory_of c.args.memory.now) c.args.size c.args.look.now.becomes _ c.requires.class c.requires.asks c.in-Answer.is

pub returns-in-Sync : goal.returns-in-Sync
returns-in-Sync c =
    ap (λ (cause : Cause). Some cause) c.cause_beside.ensures
    ∙ cause_of-found c.args.shadow.now c.args.call.now (memory_of c.args.memory.now) c.args.size c.args.look.now.becomes _ c.requires.class c.requires.asks c.in-Sync.is

pub returns-in-Defer : goal.returns-in-Defer
returns-in-Defer c = cause_of-found c.args.shadow.now c.args.call.now (memory_of c.args.memory.now) c.args.size c.args.look.now.becomes _ c.requires.class c.requires.asks c.in-Defer.is
