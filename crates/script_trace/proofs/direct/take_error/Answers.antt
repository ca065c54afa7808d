use Rattle.std.proofs.Common.{refl}
use Rattle.gl_memory.specs.ClientMemory.{memory_of}
use Rattle.driver_trait.specs.Reply.{replied}
use Rattle.script_trace.proofs.Recording.{get_error_asks_nothing, left_by_get_error, told_by_get_error}
use Rattle.script_trace.proofs.direct.take_error.Goals as goal

pub returns-clause-error : goal.returns-clause-error
returns-clause-error g c =
    c.error_in.ensures c.args.soft.now.own.state.error (told_by_get_error c.args.soft.now c.call.new.self (memory_of c.args.memory.now) (replied c.in-Ok.reply) c.in-Ok.ensures.ok)

pub returns-clause-left : goal.returns-clause-left
returns-clause-left g c = left_by_get_error c.args.soft.now c.call.new.self (memory_of c.args.memory.now) (replied c.in-Ok.reply) c.in-Ok.ensures.ok

pub unreachable-requires : goal.unreachable-requires
unreachable-requires g c = get_error_asks_nothing c.args.soft.now.own.state.tracked (c.in-Err.ensures.memory refl)
