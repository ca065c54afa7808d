use Rattle.std.proofs.Common.{sym, ◌∙◌}
use Rattle.gl_tracked.proofs.Stepping.{tracked_after-fault, tracked_after-no_fault}
use Rattle.gl_tracked.proofs.Keeping.{set-sound}
use Rattle.gl_tracked.proofs.tracked.Tracked.note.Goals as goal

pub returns-in-None-clause-step : goal.returns-in-None-clause-step
returns-in-None-clause-step g c =
    c.set.ensures
    ∙ sym (tracked_after-no_fault c.args.self.now c.args.call.now (g.M.Memory.segments c.args.memory.now) (sym c.requires.fault ∙ c.in-None.is))

pub returns-in-None-clause-sound : goal.returns-in-None-clause-sound
returns-in-None-clause-sound g c = set-sound c.args.self.now c.set.new.self c.args.call.now (g.M.Memory.segments c.args.memory.now) (sym c.requires.fault ∙ c.in-None.is) c.set.ensures

pub returns-in-Some-clause-step : goal.returns-in-Some-clause-step
returns-in-Some-clause-step g c =
    sym (tracked_after-fault c.args.self.now c.args.call.now (g.M.Memory.segments c.args.memory.now) _ (sym c.requires.fault ∙ c.in-Some.is))
