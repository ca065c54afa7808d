use Rattle.epoch_rail.proofs.Works.{Carried-none}
use Rattle.epoch_rail.proofs.carry.carry_all.Goals as goal

pub loop-init : goal.loop-init
loop-init g c = Carried-none g.D.Machine.steps c.args.begun
