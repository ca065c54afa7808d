use Rattle.fixed_transform.proofs.Greatest.{floor_is_greatest}
use Rattle.fixed_transform.proofs.laws.floor_law.Goals as goal

pub returns : goal.returns
returns c = floor_is_greatest c.args.a c.args.b
