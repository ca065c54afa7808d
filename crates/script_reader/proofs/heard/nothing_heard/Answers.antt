-- nothing was said
use Rattle.std.proofs.Common.{refl}
use Rattle.script_reader.proofs.Hearing.{IsHeard-nothing}
use Rattle.script_reader.proofs.heard.nothing_heard.Goals as goal

pub returns-clause-heard : goal.returns-clause-heard
returns-clause-heard c = IsHeard-nothing _ c.new.ensures c.new-2.ensures refl
