-- the words that are left are options as all are
use Rattle.std.proofs.Common.{◌≡◌, length}
use Rattle.replay_text.specs.Words.{are_options, texts_of}
use Rattle.replay_text.proofs.words.are_options.Given as goal

abbrev pub invariant-pairs : goal.invariant-pairs
invariant-pairs l = are_options (texts_of l.remaining) ≡ are_options (texts_of l.words)

abbrev pub decreases-pairs : goal.decreases-pairs
decreases-pairs l = length l.remaining
