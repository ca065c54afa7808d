use Rattle.std.proofs.Common.{w32}
use Rattle.std.proofs.lemmas.Int.{to_z-of_z}
use Rattle.soft_driver.proofs.Readings.{divides}
use Rattle.soft_driver.proofs.reading.divided.Goals as goal

pub returns : goal.returns
returns c =
    let zero = c.left_of.ensures in
    let end = c.left_of-2.ensures in
    divides c.args.x _ c.args.side c.args.width c.left_of.result c.left_of-2.result (to_z-of_z w32 c.args.x c.ranges.x)
    end.few zero.few zero.left zero.right end.left end.right
