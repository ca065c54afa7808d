use Rattle.array_capture.proofs.Covering.{pieces_of_colour-serve}
use Rattle.array_capture.proofs.laws.colour_law.Goals as goal

pub returns : goal.returns
returns g c = λ pointer. pieces_of_colour-serve pointer (g.M.Memory.segments c.args.memory.now)
