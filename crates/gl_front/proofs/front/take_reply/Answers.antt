use Rattle.std.proofs.Common.{sym, ◌∙◌}
use Rattle.gl_memory.specs.ClientMemory.{memory_of}
use Rattle.gl_tracked.proofs.Stepping.{tracked_after-answering}
use Rattle.gl_front.proofs.front.take_reply.Goals as goal

pub returns-then-asks-clause-tracked : goal.returns-then-asks-clause-tracked
returns-then-asks-clause-tracked c =
    tracked_after-answering c.args.shadow.now c.args.call.now (memory_of c.args.memory.now) (sym c.requires.asks ∙ c.if-asks.true)
