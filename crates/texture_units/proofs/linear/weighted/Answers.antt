use Rattle.std.proofs.Common.{arith}
use Rattle.std.proofs.lemmas.Nat.{mul-le}
use Rattle.texture_units.proofs.linear.weighted.Goals as goal

pub overflow_mul-result : goal.overflow_mul-result
overflow_mul-result c = let most = mul-le c.args.weight c.from.result 65536 255 c.requires (omega arith) in omega arith

pub returns-clause-most : goal.returns-clause-most
returns-clause-most c = mul-le c.args.weight c.from.result c.args.weight 255 (omega arith) (omega arith)
