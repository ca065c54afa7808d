use Rattle.triangle_raster.proofs.SharedEdges.{opposite_corners_cover_once}
use Rattle.triangle_raster.proofs.laws.shared_edge_law.Goals as goal

pub returns : goal.returns
returns c = opposite_corners_cover_once c.args.one.now c.args.other.now c.args.view c.args.x c.args.y
