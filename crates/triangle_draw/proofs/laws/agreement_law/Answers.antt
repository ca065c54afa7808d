use Rattle.triangle_draw.proofs.Alike.{draws_alike}
use Rattle.triangle_draw.proofs.laws.agreement_law.Goals as goal

pub returns : goal.returns
returns g c = draws_alike c.args.drawing.now (g.M.Memories.each c.args.one.now) (g.N.Memories.each c.args.other.now)
