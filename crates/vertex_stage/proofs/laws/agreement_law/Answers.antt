use Rattle.vertex_stage.proofs.Agreement.{corners_of-same}
use Rattle.vertex_stage.proofs.laws.agreement_law.Goals as goal

pub returns : goal.returns
returns g c = corners_of-same (g.M.Memories.each c.args.one.now) (g.N.Memories.each c.args.other.now) c.args.stage.now
