use Rattle.epoch_rail.proofs.Works.{Carried-none}
use Rattle.epoch_rail.proofs.crew.start.Goals as goal

pub returns-in_default-clause-err : goal.returns-in_default-clause-err
returns-in_default-clause-err g c = Carried-none g.D.Machine.steps c.args.work
