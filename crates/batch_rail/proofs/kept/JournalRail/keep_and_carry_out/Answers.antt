use Rattle.batch_rail.specs.Journal.{room_by, told_by}
use Rattle.batch_rail.proofs.Journals.{Gains-told_with}
use Rattle.batch_rail.proofs.kept.JournalRail.keep_and_carry_out.Goals as goal

pub returns-clause-stands : goal.returns-clause-stands
returns-clause-stands g c = rw (← c.self.view_is) c.carry_out.ensures.stands

pub returns-clause-failed : goal.returns-clause-failed
returns-clause-failed g c = rw (← c.self.view_is) c.carry_out.ensures.failed

pub returns-clause-journal : goal.returns-clause-journal
returns-clause-journal g c =
    let inside = c.self.inside in
    rw (← c.self.view_is)
    (Gains-told_with (room_by inside.journal) (told_by inside.journal) (told_by c.keep.new.journal) c.args.full.calls c.keep.ensures.told)

pub returns-clause-idle : goal.returns-clause-idle
returns-clause-idle g c = rw (← c.self.view_is) c.carry_out.ensures.idle

pub returns-clause-stopped : goal.returns-clause-stopped
returns-clause-stopped g c = rw (← c.self.view_is) c.carry_out.ensures.stopped
