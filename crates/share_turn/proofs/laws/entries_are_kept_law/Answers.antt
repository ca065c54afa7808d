use Rattle.share_turn.proofs.LawLemmas.{entries_are_kept}
use Rattle.share_turn.proofs.laws.entries_are_kept_law.Goals as goal

pub returns : goal.returns
returns g c = entries_are_kept g.T.Annals.entries g.T.Annals.number
