use Rattle.soft_driver.proofs.NoEvents.{own_step-no_event}
use Rattle.soft_driver.proofs.laws.no_event_law.Goals as goal

pub returns : goal.returns
returns c own call memory none one other = own_step-no_event memory one other own call none
