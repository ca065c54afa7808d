use Rattle.driver_trait.specs.Reply.{replied}
use Rattle.script_trace.proofs.Meeting.{can_join, met_entry, met_past, met_tracked}
use Rattle.script_trace.proofs.here.Here.meet.Goals as goal

pub take-ended-requires-clause-joins : goal.take-ended-requires-clause-joins
take-ended-requires-clause-joins g c =
    let h = c.self.inside in
    let look = c.look-look in
    can_join h.size h.shadow c.args.call.now h.memory look.result.becomes look.new.pieces look.ensures.class look.ensures.number look.ensures.pieces look.ensures.heading

pub invariant_of-self-2 : goal.invariant_of-self-2
invariant_of-self-2 g c =
    let h = c.self.inside in
    let look = c.look-look in
    record {
      batch_size = c.self.invariant.batch_size;
      same_tracked = met_tracked h.size h.context c.args.line h.direct c.call.new.self h.memory c.note.new.memory h.shadow h.batch c.take-ended.new.self c.send-sent.new.self c.args.call.now look.result.becomes look.new.pieces (replied c.in_ok-met.met.reply)
          c.self.invariant.same_tracked look.ensures.class look.ensures.number look.ensures.pieces look.ensures.heading c.in_ok-met.ensures.ok c.take-ended.ensures.taken c.send-sent.ensures.next c.note.ensures.memory
          c.note.new.shadow c.note.ensures.tracked;
      within = c.send-sent.ensures.within h.size c.take-ended.ensures.within;
    }

pub returns-clause-entry : goal.returns-clause-entry
returns-clause-entry g c =
    let h = c.self.inside in
    let look = c.look-look in
    rw (← c.self.view_is)
    (met_entry h.size h.context c.args.line h.direct c.call.new.self h.memory c.note.new.memory h.shadow h.batch c.take-ended.new.self c.send-sent.new.self c.args.call.now look.result.becomes look.new.pieces (replied c.in_ok-met.met.reply)
    c.self.invariant.same_tracked look.ensures.class look.ensures.number look.ensures.pieces look.ensures.heading c.in_ok-met.ensures.ok c.take-ended.ensures.taken c.send-sent.ensures.next c.note.ensures.memory
    _ c.recorded-before.result c.in_ok-met.met.error c.cause-cause.result c.recorded_beside.result c.take-ended.result c.fate-fate.result c.send-sent.result
    c.printed_of.ensures c.recorded-before.ensures c.in_ok-met.ensures.error c.recorded_beside.ensures c.cause-cause.ensures c.take-ended.ensures.end c.fate-fate.ensures c.send-sent.ensures.end)

pub returns-clause-past : goal.returns-clause-past
returns-clause-past g c =
    let h = c.self.inside in
    let look = c.look-look in
    rw (← c.self.view_is)
    (met_past h.size h.context c.args.line h.direct c.call.new.self h.memory c.note.new.memory h.shadow h.batch c.take-ended.new.self c.send-sent.new.self c.args.call.now look.result.becomes look.new.pieces (replied c.in_ok-met.met.reply)
    c.self.invariant.same_tracked look.ensures.class look.ensures.number look.ensures.pieces look.ensures.heading c.in_ok-met.ensures.ok c.take-ended.ensures.taken c.send-sent.ensures.next c.note.ensures.memory)
