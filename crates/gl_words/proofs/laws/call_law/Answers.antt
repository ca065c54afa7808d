-- the law is proved row by row
use Rattle.gl_words.proofs.Rows.{call_of-law}
use Rattle.gl_words.proofs.laws.call_law.Goals as goal

pub returns : goal.returns
returns c = call_of-law
