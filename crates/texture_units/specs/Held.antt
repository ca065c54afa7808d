-- What the private structs of the code stand for.
use Rattle.texture_units.specs.declared.linear.FourWeights.{FourWeights}
use Rattle.texture_units.specs.Sample.{Weights}

-- the weights of four texels; own
abbrev pub weights_seen : FourWeights → Weights
weights_seen w = record { first = w.first; along_s = w.along_s; along_t = w.along_t; along_both = w.along_both }
