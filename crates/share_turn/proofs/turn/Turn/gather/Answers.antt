use Rattle.std.proofs.Common.{rules, ◌∷◌, ◌++◌, [], map, ap, sym, ◌∙◌, Some}
use Rattle.std.proofs.lemmas.List.Elements.{All-pop}
use Rattle.share_turn.specs.View.{hand_of}
use Rattle.share_turn.specs.Turn.{IsSeatOf, IsIdle, own_part}
use Rattle.share_turn.proofs.Dealing.{parts-last, parts-joined}
use Rattle.share_turn.proofs.Keeping.{joins_keep}
use Rattle.share_turn.proofs.turn.Turn.gather.Goals as goal

pub loop-seat-init : goal.loop-seat-init
loop-seat-init g c =
    let x = c.in-Some.field-0 in let items = c.in-Some.ensures.items in let left = c.pop.new.self.items in
    let turns = All-pop (λ s. IsSeatOf s c.args.self.now) c.args.seats.items left (Some x) items c.requires.turn in let idles = All-pop IsIdle c.args.seats.items left (Some x) items c.requires.idle in
    record {
      same_table = turns.1.0;
      counted = turns.1.1;
      active = x.active;
      idle = idles.1;
      hand = x.hand ∙ ap hand_of idles.1;
      of_turn = turns.0;
      all_idle = idles.0;
      parts = parts-last own_part c.args.seats.items left x x.seat.me.0.kept items x.alone;
    }

pub join_seat-requires : goal.join_seat-requires
join_seat-requires g c =
    let inv = c.loop-seat.invariant in let x = c.in-Some-pop.field-0 in let items = c.in-Some-pop.ensures.items in let all = c.loop-seat.left.items in let left = c.pop-in-loop-seat.new.self.items in
    let turns = All-pop (λ s. IsSeatOf s c.args.self.now) all left (Some x) items inv.of_turn in let idles = All-pop IsIdle all left (Some x) items inv.all_idle in (
      inv.same_table,
      turns.1.0,
      x.hand ∙ ap hand_of idles.1,
      search rules,
      joins_keep g.T.Annals.entries g.T.Annals.number c.args.self.now.table.shared.key.seats c.loop-seat.last.id c.loop-seat.last.me.0 x.seat.id x.seat.me.0 inv.active inv.idle x.active idles.1,
    )

pub loop-seat-preserved : goal.loop-seat-preserved
loop-seat-preserved g c =
    let inv = c.loop-seat.invariant in let x = c.in-Some-pop.field-0 in let items = c.in-Some-pop.ensures.items in let all = c.loop-seat.left.items in let left = c.pop-in-loop-seat.new.self.items in
    let turns = All-pop (λ s. IsSeatOf s c.args.self.now) all left (Some x) items inv.of_turn in let idles = All-pop IsIdle all left (Some x) items inv.all_idle in
    let last = c.loop-seat.last.me.0 in let is = c.join_seat.ensures.2 in
    record {
      same_table = c.join_seat.ensures.0 ∙ inv.same_table;
      counted = ap (λ m. m.0.seats) is ∙ inv.counted;
      active = ap (λ m. m.0.active) is ∙ inv.active;
      idle = ap (λ m. m.0.holding) is ∙ inv.idle;
      hand = ap (λ m. m.1) is ∙ inv.hand;
      of_turn = turns.0;
      all_idle = idles.0;
      parts = inv.parts ∙ (parts-joined own_part all left x last.kept x.seat.me.0.kept last.own items x.alone ∙ ap (λ m. map own_part left ++ (m.0.kept ++ m.0.own ∷ [])) (sym is));
    }
