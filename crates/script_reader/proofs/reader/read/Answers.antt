-- what is read is spelled, so it is within the limits
use Rattle.script_reader.proofs.Within.{what_is_read_is_within}
use Rattle.script_reader.proofs.reader.read.Goals as goal

pub returns-clause-limits : goal.returns-clause-limits
returns-clause-limits c = what_is_read_is_within c.args.bytes.now c.read_all.result c.read_all.ensures
