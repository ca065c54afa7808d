use Rattle.std.proofs.Common.{rules, ◌≡◌, ℕ, ◌+◌, ◌<◌, [], length, ap, sym, ◌∙◌, subst, arith}
use Rattle.std.proofs.lemmas.List.Elements.{All-push, All-same}
use Rattle.share_turn.specs.Annals.{entries_of}
use Rattle.share_turn.specs.View.{dealer, dealt, part_of}
use Rattle.share_turn.specs.Turn.{number_of, IsDealt}
use Rattle.share_turn.proofs.Dealing.{undealt, undealt-kept, dealer-undealt, dealt-undealt, part_knows_own, InOrder, InOrder-push}
use Rattle.share_turn.proofs.Keeping.{deals_keep}
use Rattle.share_turn.proofs.turn.Turn.deal.Goals as goal

pub split_seat-seat-requires : goal.split_seat-seat-requires
split_seat-seat-requires g c =
    let number = g.T.Annals.number in let turn = c.args.self.now.table.shared in let history = g.T.Annals.entries turn.key.value.value in
    let seats : ℕ = c.args.seats in let k : ℕ = c.loop-number._number in let more : k < seats = omega arith in
    let left = c.loop-number.invariant.left in
    let kept = ap (λ m. m.0.kept) left ∙ undealt-kept number seats history k more in
    (search rules, search rules, deals_keep g.T.Annals.entries number turn.key.seats c.loop-number.first.id c.loop-number.first.me.0 _ _ (ap (λ m. m.0.active) left) (ap (λ m. m.0.holding) left) kept)

pub invariant_of-push_reserved-clause-own_entries : goal.invariant_of-push_reserved-clause-own_entries
invariant_of-push_reserved-clause-own_entries g c =
    let number = g.T.Annals.number in let history = g.T.Annals.entries c.args.self.now.table.shared.key.value.value in
    let seats : ℕ = c.args.seats in let k : ℕ = c.loop-number._number in let more : k < seats = omega arith in
    let is = ap (λ m. m.0.own) c.split_seat-seat.ensures.4 ∙ ap (λ m. (dealt m.0).own) c.loop-number.invariant.left in
    part_knows_own number seats history k c.split_seat-seat.result.me.0.own (is ∙ dealt-undealt number seats history k more)

pub loop-number-preserved : goal.loop-number-preserved
loop-number-preserved g c =
    let number = g.T.Annals.number in let turn = c.args.self.now.table.shared in let history = g.T.Annals.entries turn.key.value.value in
    let seats : ℕ = c.args.seats in let k : ℕ = c.loop-number._number in let more : k < seats = omega arith in
    let left = c.loop-number.invariant.left in let split = c.split_seat-seat.ensures in
    let is : c.split_seat-seat.result.me.0 ≡ dealt (undealt number seats history k) = ap (λ m. m.0) split.4 ∙ ap (λ m. dealt m.0) left in
    let own : c.split_seat-seat.result.me.0.own ≡ part_of number history k = ap (λ v. v.own) is ∙ dealt-undealt number seats history k more in
    let old = c.loop-number.dealt.items in let items = c.push_reserved.ensures.items in
    let bears : c.split_seat-seat.result.me.0.own.number ≡ k = ap (λ p. p.number) own in
    let size : length old + 1 ≡ k = omega (arith, c.loop-number.invariant.count, c.loop-number.dealt.ok.0) in
    record {
      same_table = search rules;
      left = split.2 ∙ (ap (λ m. (dealer m.0, m.1)) left ∙ ap (λ v. (v, [])) (dealer-undealt number seats history k more));
      room = search rules;
      count = search rules;
      order = subst (λ l. InOrder number_of 1 l) (sym items) (InOrder-push number_of 1 old _ c.loop-number.invariant.order (let n : ℕ = length old in let e : c.split_seat-seat.result.me.0.own.number ≡ 1 + n = omega arith in e));
      dealt = All-same (IsDealt c.args.self.now turn.key.value.value) _ _ items (All-push (IsDealt c.args.self.now turn.key.value.value) old _ c.loop-number.invariant.dealt record {
        of_turn = (search rules, ap (λ v. v.seats) is ∙ c.requires.seats.1);
        idle = ap (λ v. v.holding) is;
        own = ap (λ p. p.mine) own ∙ ap (λ n. entries_of number n history) (sym bears);
        all_seen = ap (λ p. p.seen) own;
        no_looks = ap (λ v. v.looks) is;
        no_takes = (ap (λ v. v.last_take) is, ap (λ v. v.met_take) is);
      });
    }
