use Rattle.std.proofs.Common.{arith}
use Rattle.gl_tracked.proofs.Stacks.{pop_has_two, push_has_room, current_most-few}
use Rattle.gl_tracked.proofs.tracked.Tracked.set.Goals as goal

pub overflow_sub-depth : goal.overflow_sub-depth
overflow_sub-depth g c = let two = pop_has_two c.args.self.now (rw c.in-PopMatrix.is at c.requires.no_fault) in omega (arith, c.depth.ensures)

pub overflow_add-depth : goal.overflow_add-depth
overflow_add-depth g c =
    let room = push_has_room c.args.self.now (rw c.in-PushMatrix.is at c.requires.no_fault) in
    let few = current_most-few c.args.self.now in
    omega (arith, c.depth-in-PushMatrix.ensures)
