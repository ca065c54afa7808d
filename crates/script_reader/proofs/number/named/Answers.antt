-- what isn't text is no name
use Rattle.script_reader.proofs.Ascii.{no_name_unless_text}
use Rattle.script_reader.proofs.number.named.Goals as goal

pub returns-in-Err-clause-gives : goal.returns-in-Err-clause-gives
returns-in-Err-clause-gives c = no_name_unless_text c.args.word.now (c.in-Err.ensures.cases.0)
