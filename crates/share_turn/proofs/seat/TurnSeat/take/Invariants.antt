use Rattle.std.proofs.Common.{◌≡◌, ◌≤◌}
use Rattle.share_turn.specs.Turn.{IsSameSeat, IsIdle, mine, seen, looks, last_take, met_take}
use Rattle.share_turn.proofs.seat.TurnSeat.take.Given as goal

abbrev pub invariant-loop : goal.invariant-loop
invariant-loop g l = (goal.iterator-loop g).can_next l.iterator' × (goal.iterator-loop g).is_finite l.iterator' × IsSameSeat l.initial.self l.self × IsIdle l.self × (mine l.self ≡ mine l.initial.self) × (seen l.self ≡ seen l.initial.self) × (looks l.initial.self ≤ looks l.self) × (last_take l.self ≡ last_take l.initial.self) × (met_take l.initial.self ≤ met_take l.self)
