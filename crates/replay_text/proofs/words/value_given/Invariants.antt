-- the pairs that are left give the same value
use Rattle.std.proofs.Common.{◌≡◌, length}
use Rattle.replay_text.specs.Words.{pairs_of, texts_of, value_given}
use Rattle.replay_text.proofs.words.value_given.Given as goal

abbrev pub invariant-pairs : goal.invariant-pairs
invariant-pairs l = value_given l.name (pairs_of (texts_of l.remaining)) ≡ value_given l.name (pairs_of (texts_of l.words))

abbrev pub decreases-pairs : goal.decreases-pairs
decreases-pairs l = length l.remaining
