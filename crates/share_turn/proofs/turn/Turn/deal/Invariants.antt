use Rattle.std.proofs.Common.{◌≡◌, ◌+◌, ◌≤◌, [], vec_len, vec_capacity, All}
use Rattle.share_turn.specs.Turn.{IsDealt, IsInOrderFrom}
use Rattle.share_turn.proofs.Dealing.{undealt}
use Rattle.share_turn.proofs.turn.Turn.deal.Given as goal

abbrev pub invariant-loop-number : goal.invariant-loop-number
invariant-loop-number g l = let opened = l.self.table.shared.key.value.value in record {
  same_table : l.first.table_id ≡ l.self.table.shared.table_id;
  left : l.first.me ≡ (undealt g.T.Annals.number l.seats (g.T.Annals.entries opened) l._number, []);
  room : l.seats ≤ vec_capacity l.dealt;
  count : vec_len l.dealt + 1 ≡ l._number;
  order : IsInOrderFrom 1 l.dealt.items;
  dealt : All (IsDealt l.self opened) l.dealt.items;
}
