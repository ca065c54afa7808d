-- each call has a kind fewer
use Rattle.std.proofs.Common.{length}
use Rattle.gl_words.proofs.making.+fit.Given as goal

abbrev pub decreases-fit : goal.decreases-fit
decreases-fit g l = length l.kinds.now
