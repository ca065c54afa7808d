use Rattle.gl_memory.specs.ClientMemory.{memory_of}
use Rattle.script_trace.proofs.Recording.{error_told, none_stays, step_told}
use Rattle.script_trace.proofs.direct.Direct.call.Goals as goal

pub returns-clause-ok : goal.returns-clause-ok
returns-clause-ok g c =
    rw (← c.self.view_is)
    (step_told c.self.inside.soft c.call.new.self c.take_error-error.new.soft c.self.inside.recorded c.note_error.new.recorded c.args.call.now (memory_of c.args.memory.now) _ _ c.take_error-error.result
    c.self.invariant c.in_ok-reply.ensures.ok c.take_error-error.ensures.error c.take_error-error.ensures.left c.note_error.ensures c.reply_beside-reply.ensures)

pub returns-clause-error : goal.returns-clause-error
returns-clause-error g c =
    rw (← c.self.view_is)
    (error_told c.self.inside.soft c.call.new.self c.take_error-error.new.soft c.self.inside.recorded c.note_error.new.recorded c.args.call.now (memory_of c.args.memory.now) _ _ c.take_error-error.result
    c.self.invariant c.in_ok-reply.ensures.ok c.take_error-error.ensures.error c.take_error-error.ensures.left c.note_error.ensures c.reply_beside-reply.ensures)

pub invariant_of-self-2 : goal.invariant_of-self-2
invariant_of-self-2 g c = none_stays c.call.new.self c.take_error-error.new.soft c.take_error-error.ensures.left
