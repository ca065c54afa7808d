use Rattle.std.proofs.Common.{rules, subst, sym, ◌∷◌, [], arith}
use Rattle.std.proofs.lemmas.List.Elements.{All-nil, All-cons}
use Rattle.share_turn.specs.Turn.{IsSeatOf, IsAllOf, number_of}
use Rattle.share_turn.proofs.Dealing.{InOrder-cons}
use Rattle.share_turn.proofs.SeatLemmas.{IsAllOf-in_order}
use Rattle.turn_tests.proofs.seats.both.Goals as goal

pub returns-clause-all : goal.returns-clause-all
returns-clause-all g c =
    let a = c.args.first in let b = c.args.second in let t = c.args.turn.now in
    let order = InOrder-cons number_of 0 a (b ∷ []) c.requires.first.1 (InOrder-cons number_of 1 b [] c.requires.second.1 (λ k d within. absurd (omega arith))) in
    subst (IsAllOf t) (sym (search rules)) (IsAllOf-in_order t (a ∷ b ∷ []) (All-cons (λ s. IsSeatOf s t) a (b ∷ []) c.requires.first.0 (All-cons (λ s. IsSeatOf s t) b [] c.requires.second.0 (All-nil (λ s. IsSeatOf s t)))) order (sym c.requires.turn))
