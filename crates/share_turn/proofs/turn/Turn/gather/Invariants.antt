use Rattle.std.proofs.Common.{◌≡◌, ◌∷◌, ◌++◌, [], true, false, map, vec_len, All}
use Rattle.share_turn.specs.Turn.{IsSeatOf, IsIdle, own_part, seat_count}
use Rattle.share_turn.proofs.turn.Turn.gather.Given as goal

abbrev pub invariant-loop-seat : goal.invariant-loop-seat
invariant-loop-seat g l = record {
  same_table : l.last.table_id ≡ l.self.table.shared.table_id;
  counted : l.last.me.0.seats ≡ seat_count l.self;
  active : l.last.me.0.active ≡ true;
  idle : l.last.me.0.holding ≡ false;
  hand : l.last.me.1 ≡ [];
  of_turn : All (λ s. IsSeatOf s l.self) l.left.items;
  all_idle : All IsIdle l.left.items;
  parts : map own_part l.fn.seats.items ≡ map own_part l.left.items ++ (l.last.me.0.kept ++ l.last.me.0.own ∷ []);
}

abbrev pub decreases-loop-seat : goal.decreases-loop-seat
decreases-loop-seat g l = vec_len l.left
