use Rattle.share_turn.proofs.LawLemmas.{seats_differ}
use Rattle.share_turn.proofs.laws.seats_differ_law.Goals as goal

pub returns : goal.returns
returns g c = seats_differ g.T.Annals.entries g.T.Annals.number
