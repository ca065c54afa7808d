use Rattle.std.proofs.Common.{◌≡◌}
use Rattle.frame_loop.specs.Work.{worked}
use Rattle.frame_loop.proofs.work.worked.Given as goal

-- the number after the steps so far
abbrev pub invariant-loop : goal.invariant-loop
invariant-loop l = l.number ≡ worked l.fn.number l.counter
