use Rattle.array_capture.proofs.Covering.{pieces_of_draw-serve}
use Rattle.array_capture.proofs.laws.draw_law.Goals as goal

pub returns : goal.returns
returns g c = λ first count. pieces_of_draw-serve c.args.tracked.now first count (g.M.Memory.segments c.args.memory.now)
