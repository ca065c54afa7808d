use Rattle.std.proofs.Common.{rules, ap, subst, ◌∙◌}
use Rattle.share_turn.specs.Annals.{GoesOnBy}
use Rattle.share_turn.proofs.Histories.{entries_of-longer}
use Rattle.share_turn.proofs.Keeping.{gives_keep, one_in_hand}
use Rattle.share_turn.proofs.turn.Turn.release.Goals as goal

pub store-requires : goal.store-requires
store-requires g c =
    let laid = c.requires.laid in
    (search rules, search rules, gives_keep g.T.Annals.entries g.T.Annals.number c.args.self.now.table.shared.key.seats _ c.args.place.now.id c.args.place.now.me laid.0 c.requires.holds.0 c.requires.holds.1 laid.1 laid.2)

pub returns-clause-grown : goal.returns-clause-grown
returns-clause-grown g c value hand added longer =
    let number = g.T.Annals.number in let entries = g.T.Annals.entries in let v = c.args.place.now.me.0 in let laid = c.requires.laid in
    let told = c.store.ensures.2 value hand in
    let same = one_in_hand c.args.place.now.me.1 value laid.0 hand laid.1 in
    ap (λ m. m.0.own.mine) told.0
    ∙ entries_of-longer number v.own.number (entries value) v.own.mine v.own.seen added (subst (λ x. GoesOnBy number v.own.number v.own.seen (entries x)) same laid.2) told.1 longer
