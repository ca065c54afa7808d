use Rattle.batch_pack.proofs.Reading.{not_empty}
use Rattle.batch_pack.proofs.decoder.first_packed.Goals as goal

pub returns-in-empty-clause-only : goal.returns-in-empty-clause-only
returns-in-empty-clause-only c = λ spelled more has begins. absurd (not_empty c.args.slots.now more spelled begins c.in-empty.len_below)
