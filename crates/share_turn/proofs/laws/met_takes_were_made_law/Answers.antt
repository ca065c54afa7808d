use Rattle.share_turn.proofs.LawLemmas.{met_takes_were_made}
use Rattle.share_turn.proofs.laws.met_takes_were_made_law.Goals as goal

pub returns : goal.returns
returns g c = met_takes_were_made g.T.Annals.entries g.T.Annals.number
