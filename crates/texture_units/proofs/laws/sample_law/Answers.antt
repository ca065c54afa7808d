use Rattle.texture_units.proofs.Samples.{sampled-among, sampled-nearest}
use Rattle.texture_units.proofs.laws.sample_law.Goals as goal

pub returns-clause-linear : goal.returns-clause-linear
returns-clause-linear c = sampled-among c.args.texture.now c.args.sampling.now c.args.s c.args.t c.args.q

pub returns-clause-nearest : goal.returns-clause-nearest
returns-clause-nearest c = sampled-nearest c.args.texture.now c.args.sampling.now c.args.s c.args.t c.args.q
