use Rattle.std.proofs.Common.{◌∙◌}
use Rattle.replay_text.proofs.WordPairs.{no_pair_left}
use Rattle.replay_text.proofs.words.value_given.Goals as goal

pub returns : goal.returns
returns c = no_pair_left c.args.name.now c.pairs.remaining.now c.in_default.len_below ∙ c.pairs.invariant
