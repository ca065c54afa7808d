use Rattle.std.proofs.Common.{ap, ◌-◌, ℕ}
use Rattle.triangle_raster.proofs.Walks.{moved_holds, next_column, walk_is}
use Rattle.triangle_raster.proofs.walk.Walk.step_first.Goals as goal

pub returns-clause-holds : goal.returns-clause-holds
returns-clause-holds c =
    moved_holds c.args.self.now c.requires.holds c.requires.some c.ready_first.new.self c.ready_first.ensures _ _
    (next_column c.args.self.now c.requires.holds c.requires.some c.ready_first.ensures.same_x) (ap (λ (n : ℕ). n - 1) c.ready_first.ensures.same_left)

pub returns-clause-seen : goal.returns-clause-seen
returns-clause-seen c =
    walk_is c.args.self.now c.requires.holds c.requires.some c.ready_first.new.self c.ready_first.ensures _ _
    (next_column c.args.self.now c.requires.holds c.requires.some c.ready_first.ensures.same_x) (ap (λ (n : ℕ). n - 1) c.ready_first.ensures.same_left)
