use Rattle.std.proofs.Common.{ℕ, Some, ◌∷◌, ◌++◌, [], ap, sym, ◌∙◌, subst}
use Rattle.atomic_table.specs.Table.{opening}
use Rattle.share_turn.specs.View.{first_view}
use Rattle.share_turn.specs.Rule.{IsKept}
use Rattle.share_turn.proofs.Keeping.{opens}
use Rattle.share_turn.proofs.SeatLemmas.{dealt-same}
use Rattle.share_turn.proofs.turn.Turn.new.Goals as goal

pub new-requires : goal.new-requires
new-requires g c =
    let entries = g.T.Annals.entries in let number = g.T.Annals.number in let seats : ℕ = c.args.seats in
    let items = c.push_reserved.ensures.items ∙ ap (λ l. l ++ Some c.args.value ∷ []) c.in-Ok-with_capacity.ensures.items in
    subst (λ l. IsKept entries number seats (opening (0 ∷ []) l (first_view number seats (entries c.of.result.value)))) (sym items)
    (subst (λ v. IsKept entries number seats (opening (0 ∷ []) (Some c.args.value ∷ []) (first_view number seats (entries v)))) (sym c.of.ensures)
    (opens entries number seats c.args.value c.requires.seats.0 c.requires.numbers))

pub returns-in-Ok-new-clause-dealt : goal.returns-in-Ok-new-clause-dealt
returns-in-Ok-new-clause-dealt g c =
    dealt-same _ _ _ _ (ap (λ k. k.value.value) c.in-Ok-new.ensures.ok.5 ∙ c.of.ensures) c.deal-dealt.ensures.dealt
