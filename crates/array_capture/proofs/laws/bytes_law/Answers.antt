use Rattle.array_capture.proofs.Covering.{pieces_of_bytes-serve, pieces_of_data-serve}
use Rattle.array_capture.proofs.laws.bytes_law.Goals as goal

pub returns-clause-data : goal.returns-clause-data
returns-clause-data g c = λ place size. pieces_of_data-serve place size (g.M.Memory.segments c.args.memory.now)

pub returns-clause-part : goal.returns-clause-part
returns-clause-part g c = λ place size. pieces_of_bytes-serve place size (g.M.Memory.segments c.args.memory.now)
