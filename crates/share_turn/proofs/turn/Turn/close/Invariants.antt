use Rattle.std.proofs.Common.{◌≡◌, [], true, false}
use Rattle.share_turn.specs.Turn.{seat_count}
use Rattle.share_turn.proofs.turn.Turn.close.Given as goal

abbrev pub invariant-loop : goal.invariant-loop
invariant-loop g l = record {
  can_next : (goal.iterator-loop g).can_next l.iterator';
  finite : (goal.iterator-loop g).is_finite l.iterator';
  same_table : l.last.table_id ≡ l.self.table.shared.table_id;
  counted : l.last.me.0.seats ≡ seat_count l.self;
  active : l.last.me.0.active ≡ true;
  idle : l.last.me.0.holding ≡ false;
  hand : l.last.me.1 ≡ [];
  own : l.last.me.0.own ≡ l.initial.last.me.0.own;
  kept : l.last.me.0.kept ≡ l.initial.last.me.0.kept;
}
