use Rattle.std.proofs.Common.{arith}
use Rattle.std.proofs.lemmas.Nat.{mul-le}
use Rattle.texture_units.proofs.linear.product.Goals as goal

pub overflow_mul-result : goal.overflow_mul-result
overflow_mul-result c = let most = mul-le c.args.a c.args.b 256 256 c.requires.a c.requires.b in omega arith
