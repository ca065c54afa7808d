use Rattle.std.proofs.Common.{[], ◌∷◌, refl, arith}
use Rattle.epoch_tests.proofs.lent.SubmittingRailUserLimited.use_rail.Goals as goal

pub returns-clause-ok : goal.returns-clause-ok
returns-clause-ok g c = record {
  batches = c.args.self.batch.calls ∷ [];
  led = λ st2 may.
      let runs = c.submit-empty.ensures.stands st2 may in
      (runs.start, runs.may_start, (omega arith, refl, runs.run));
  gained = c.submit-empty.ensures.journal;
}
