use Rattle.gl_tracked.specs.Tracked.{IsSound}
use Rattle.capture_tests.proofs.captures.take.Given as goal

abbrev pub invariant-loop-call : goal.invariant-loop-call
invariant-loop-call l = IsSound l.tracked
