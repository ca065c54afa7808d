use Rattle.batch_rail.proofs.inline.InlineRail.carry_out.Goals as goal

pub returns-clause-stands : goal.returns-clause-stands
returns-clause-stands g c = λ st2 may. c.fails-self.ensures.runs (may.0) st2 (may.1)
