use Rattle.std.proofs.Common.{refl}
use Rattle.fixed_transform.specs.Matrix.{identity}
use Rattle.fixed_transform.proofs.matrix.Matrix.identity.Goals as goal

pub returns : goal.returns
unfolding identity
returns c = refl
