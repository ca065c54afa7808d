use Rattle.driver_trait.specs.Recorder.{RecorderSteps}
use Rattle.epoch_rail.proofs.Works.{Carried-none}
use Rattle.epoch_tests.proofs.batches.no_thread.Goals as goal

pub returns-clause-err : goal.returns-clause-err
returns-clause-err c = Carried-none RecorderSteps c.args.work
