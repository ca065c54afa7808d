use Rattle.std.proofs.Common.{rules}
use Rattle.triangle_raster.proofs.Bounds.{product_near}
use Rattle.triangle_raster.proofs.arithmetic.product.Goals as goal

pub returns-clause-near : goal.returns-clause-near
returns-clause-near c = product_near _ c.args.a c.args.b (search rules)
