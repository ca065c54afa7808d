use Rattle.std.proofs.Common.{rules, ap, sym, ◌∙◌, ◌∷◌, Some}
use Rattle.atomic_table.specs.Table.{rest}
use Rattle.share_turn.proofs.Keeping.{tries_keep}
use Rattle.share_turn.proofs.turn.Turn.seize.Goals as goal

pub compare_exchange-requires : goal.compare_exchange-requires
compare_exchange-requires g c = (search rules, search rules, tries_keep _ _ c.args.self.now.table.shared.key.seats _ _ c.args.place.now.me c.requires.free.0 c.requires.free.1)

pub exchange-requires : goal.exchange-requires
exchange-requires g c =
    let t = c.compare_exchange.ensures.2.0 c.if-compare_exchange-eq0.true in
    let hand = t.hand ∙ ap (λ l. (0, Some t.value) ∷ l) c.requires.free.2 in
    (search rules, (Some t.value, hand ∙ ap (λ l. (0, Some t.value) ∷ rest l) (sym hand)))
