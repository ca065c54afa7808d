use Rattle.std.proofs.Common.{rules, sym, SFits, w64}
use Rattle.std.proofs.lemmas.Int.{to_z-of_z}
use Rattle.driver_trait.proofs.Recordings.{answered_by, unanswered_by, recorded_by}
use Rattle.driver_trait.proofs.recorder.Recorder.meet.Goals as goal

pub returns-in-Number-clause-ok : goal.returns-in-Number-clause-ok
returns-in-Number-clause-ok g c =
    let fits : SFits w64 c.in-Number.number = search rules in
    answered_by c.args.self.now (record { tracked = c.self.inside.tracked; calls = c.self.inside.calls.items }) c.args.call.now
    _ c.in-Number.number (g.M.Memory.segments c.args.memory.now)
    c.self.view_is (sym c.in-Number.ensures.number) (to_z-of_z w64 c.in-Number.number fits)

pub returns-in_ok-push-in-Fault-clause-ok : goal.returns-in_ok-push-in-Fault-clause-ok
returns-in_ok-push-in-Fault-clause-ok g c = (
  recorded_by c.args.self.now (record { tracked = c.self.inside.tracked; calls = c.self.inside.calls.items }) c.args.call.now
      c.note.new.self c.push.new.self.items (g.M.Memory.segments c.args.memory.now)
      c.self.view_is (sym c.in-Fault.ensures.number) c.note.ensures.step c.in_ok-push-in-Fault.ensures.items,
  unanswered_by c.args.self.now (record { tracked = c.self.inside.tracked; calls = c.self.inside.calls.items }) c.args.call.now
      c.self.view_is (sym c.in-Fault.ensures.number),
)
