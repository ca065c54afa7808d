use Rattle.array_capture.proofs.Covering.{pieces_of_names-serve}
use Rattle.array_capture.proofs.laws.names_law.Goals as goal

pub returns : goal.returns
returns g c = λ place count. pieces_of_names-serve place count (g.M.Memory.segments c.args.memory.now)
