use Rattle.std.proofs.Common.{arith}
use Rattle.fragment_ops.specs.State.{number_at}
use Rattle.triangle_draw.proofs.Depths.{between_few, share_read}
use Rattle.triangle_draw.proofs.fragments.depth_between.Goals as goal

pub overflow_cast-result : goal.overflow_cast-result
overflow_cast-result c =
    let near = share_read (number_at c.args.range 0) c.requires.near in
    let far = share_read (number_at c.args.range 1) c.requires.far in
    let fits = between_few c.from-near.result c.from-far.result c.from-depth.result (omega (arith, near)) (omega (arith, far)) (omega arith) in
    omega (arith, fits)
