use Rattle.std.proofs.Common.{sym, ◌∙◌}
use Rattle.triangle_raster.proofs.Walks.{left_if_some, skip_is, skip_none}
use Rattle.triangle_raster.proofs.row.Row.skip.Goals as goal

pub returns-then-is_some : goal.returns-then-is_some
returns-then-is_some c = record {
  left = skip_is _ c.seek.ensures.holds (c.seek.ensures.seen ∙ c.self.view_is) c.seek.result (sym c.is_some.ensures ∙ c.if-is_some.true) c.seek.ensures.some c.step.ensures.seen;
}

pub step-requires-clause-some : goal.step-requires-clause-some
step-requires-clause-some c = left_if_some _ _ c.seek.result (sym c.is_some.ensures ∙ c.if-is_some.true) c.seek.ensures.some

pub returns-else-is_some : goal.returns-else-is_some
returns-else-is_some c = record { left = skip_none _ c.seek.ensures.holds (c.seek.ensures.seen ∙ c.self.view_is) c.seek.result (sym c.is_some.ensures ∙ c.if-is_some.false) c.seek.ensures.none }
