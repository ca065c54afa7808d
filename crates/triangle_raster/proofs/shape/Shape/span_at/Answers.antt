use Rattle.triangle_raster.proofs.Bounds.{kept_column}
use Rattle.triangle_raster.proofs.CoveredColumns.{among_kept, sums_kept}
use Rattle.triangle_raster.proofs.shape.Shape.span_at.Goals as goal

pub returns-then-self-clause-exact : goal.returns-then-self-clause-exact
returns-then-self-clause-exact c =
    among_kept c.args.self.now c.small_span.result c.args.count (kept_column c.requires.x) (kept_column c.requires.y) c.small_span.ensures.exact

pub returns-clause-exact : goal.returns-clause-exact
returns-clause-exact c =
    c.span.ensures.exact c.args.x c.args.y (sums_kept c.args.self.now c.args.x c.args.y _ _ c.sums_at-sums.result c.sums_at-sums.ensures.sums (kept_column c.requires.x) (kept_column c.requires.y))
