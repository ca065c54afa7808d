use Rattle.triangle_raster.proofs.Ranges.{fragments_lie_in_area}
use Rattle.triangle_raster.proofs.laws.area_law.Goals as goal

pub returns : goal.returns
returns c = fragments_lie_in_area c.args.setup.now c.args.y
