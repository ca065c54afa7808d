-- an image is no larger than 256 by 256
use Rattle.script_reader.specs.Cutting.{words_of}
use Rattle.script_reader.proofs.Fitting.{what_is_judged_is_small}
use Rattle.script_reader.proofs.line.judge.Goals as goal

pub returns-then-is_text-clause-small : goal.returns-then-is_text-clause-small
returns-then-is_text-clause-small c = what_is_judged_is_small c.args.before (words_of c.args.text.now) c.judge_words.result c.judge_words.ensures
