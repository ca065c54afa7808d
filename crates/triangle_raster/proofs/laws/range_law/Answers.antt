use Rattle.triangle_raster.proofs.Ranges.{values_lie_among_corners}
use Rattle.triangle_raster.proofs.laws.range_law.Goals as goal

pub returns : goal.returns
returns c = values_lie_among_corners c.args.setup.now c.args.y
