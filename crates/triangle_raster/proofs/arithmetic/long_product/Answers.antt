use Rattle.std.proofs.Common.{lit<}
use Rattle.triangle_raster.proofs.Bounds.{product_near, within_product, kept_64, kept_128}
use Rattle.triangle_raster.proofs.arithmetic.long_product.Goals as goal

pub returns-clause-near : goal.returns-clause-near
returns-clause-near c =
    product_near _ c.args.a c.args.b
    (cc (kept_128 (within_product c.requires.a c.requires.b) (lit< tt), kept_128 c.requires.a (lit< tt), kept_64 c.requires.b (lit< tt), kept_128 c.requires.b (lit< tt)))
