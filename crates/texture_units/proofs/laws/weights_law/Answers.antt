use Rattle.texture_units.proofs.Weights.{sum_of-weights_of}
use Rattle.texture_units.proofs.laws.weights_law.Goals as goal

pub returns : goal.returns
returns c = sum_of-weights_of
