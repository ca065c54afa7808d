use Rattle.std.proofs.Common.{◌≡◌}
use Rattle.share_turn.specs.Turn.{IsSeatOf, IsIdle, number_of}
use Rattle.turn_tests.proofs.turn.append_numbers.Given as goal

abbrev pub invariant-loop-number : goal.invariant-loop-number
invariant-loop-number g l = IsSeatOf l.seat l.turn × IsIdle l.seat × (l.by ≡ number_of l.seat)
