use Rattle.gl_state.proofs.Depths.{pop_leaves_one, push_finds_room}
use Rattle.gl_state.proofs.stacks.Stacks.set.Goals as goal

pub pop-requires : goal.pop-requires
pop-requires g c = record { some = pop_leaves_one c.args.tracked.now c.args.self.now c.requires.depths (rw c.in-PopMatrix.is at c.requires.no_fault) }

pub push-requires : goal.push-requires
push-requires g c = record { room = push_finds_room c.args.tracked.now c.args.self.now c.requires.depths (rw c.in-PushMatrix.is at c.requires.no_fault) }
