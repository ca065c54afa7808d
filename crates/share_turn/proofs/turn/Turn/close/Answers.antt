use Rattle.std.proofs.Common.{◌≡◌, ◌∷◌, sym, ◌∙◌, arith}
use Rattle.std.proofs.lemmas.List.Elements.{All-same}
use Rattle.share_turn.specs.View.{parts_of, Fits}
use Rattle.share_turn.proofs.Keeping.{parts_of-active}
use Rattle.share_turn.proofs.SeatLemmas.{all_seats-some, gathered-in}
use Rattle.share_turn.proofs.turn.Turn.close.Goals as goal

pub gather-last-requires-clause-some : goal.gather-last-requires-clause-some
gather-last-requires-clause-some g c =
    let some_seat = all_seats-some c.args.self.now c.args.seats.items c.args.self.now.counted.0 c.requires.all in omega (arith, some_seat, c.args.seats.ok.0)

pub returns-in-Some-seize-clause-entries : goal.returns-in-Some-seize-clause-entries
returns-in-Some-seize-clause-entries g c =
    let value = c.in-Some-seize.value in let v = c.loop.last.me.0 in let first = c.gather-last.result.me.0 in
    let same : first.own ∷ first.kept ≡ parts_of v = (λ i. sym c.loop.invariant.own i ∷ sym c.loop.invariant.kept i) ∙ sym (parts_of-active v c.loop.invariant.active) in
    gathered-in value c.args.seats.items first.own first.kept c.gather-last.ensures.parts
    (All-same (Fits g.T.Annals.number (g.T.Annals.entries value)) (first.own ∷ first.kept) (parts_of v) same c.in-Some-seize.ensures.fitting)
