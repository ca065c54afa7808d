use Rattle.std.proofs.Common.{◌∙◌, arith}
use Rattle.texture_units.specs.Sample.{weights_of}
use Rattle.texture_units.proofs.Weights.{four_same, weights-same, weights_whole}
use Rattle.texture_units.proofs.linear.FourWeights.new.Goals as goal

pub returns-clause-value : goal.returns-clause-value
unfolding weights_of
returns-clause-value c =
    weights-same c.product.result c.product-2.result c.product-3.result c.product-4.result _ _ _ _ c.product.ensures c.product-2.ensures c.product-3.ensures c.product-4.ensures

pub returns-clause-whole : goal.returns-clause-whole
returns-clause-whole c =
    four_same c.product.result c.product-2.result c.product-3.result c.product-4.result _ _ _ _ c.product.ensures c.product-2.ensures c.product-3.ensures c.product-4.ensures
    ∙ weights_whole c.args.a c.args.b (omega arith) (omega arith)
