use Rattle.soft_driver.proofs.Frames.{first_tied}
use Rattle.soft_driver.proofs.soft.Soft.new.Goals as goal

pub invariant_of-result : goal.invariant_of-result
invariant_of-result c = rw (c.new-in-Ok.ensures, c.in-Ok.ensures) (first_tied c.args.context c.args.width c.args.height)
