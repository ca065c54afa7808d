use Rattle.array_capture.proofs.Covering.{pieces_of_elements-serve}
use Rattle.array_capture.proofs.laws.elements_law.Goals as goal

pub returns : goal.returns
returns g c = λ count kind indices. pieces_of_elements-serve c.args.tracked.now count kind indices (g.M.Memory.segments c.args.memory.now)
