-- a blank that is passed changes no word
use Rattle.std.proofs.Common.{◌∙◌, arith, rules}
use Rattle.script_reader.proofs.Cuts.{words_of-blank}
use Rattle.script_reader.proofs.words.blanks_len.Goals as goal

pub loop-at-preserved : goal.loop-at-preserved
loop-at-preserved c = c.loop-at.invariant ∙ words_of-blank c.args.text.now c.loop-at.at (omega arith) (search rules)
