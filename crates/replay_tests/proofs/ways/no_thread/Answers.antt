use Rattle.soft_driver.specs.Renderer.{SoftSteps}
use Rattle.epoch_rail.proofs.Works.{Carried-none}
use Rattle.replay_tests.proofs.ways.no_thread.Goals as goal

pub returns-clause-err : goal.returns-clause-err
returns-clause-err c = Carried-none SoftSteps c.args.work
