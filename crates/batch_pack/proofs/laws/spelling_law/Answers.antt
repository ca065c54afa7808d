use Rattle.batch_pack.proofs.Spellings.{the_spelling_law}
use Rattle.batch_pack.proofs.laws.spelling_law.Goals as goal

pub returns : goal.returns
returns c = the_spelling_law c.args.one.now c.args.other.now
