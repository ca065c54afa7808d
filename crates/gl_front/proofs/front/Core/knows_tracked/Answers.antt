use Rattle.gl_front.proofs.front.Core.knows_tracked.Goals as goal

pub returns : goal.returns
returns g c = rw (← c.self.view_is) c.self.invariant.1
