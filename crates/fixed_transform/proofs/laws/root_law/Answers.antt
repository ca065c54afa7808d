use Rattle.fixed_transform.proofs.Greatest.{floor_root_is_greatest}
use Rattle.fixed_transform.proofs.laws.root_law.Goals as goal

pub returns : goal.returns
returns c = floor_root_is_greatest c.args.n
