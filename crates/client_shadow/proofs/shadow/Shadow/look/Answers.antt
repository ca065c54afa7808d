use Rattle.std.proofs.Common.{sym}
use Rattle.client_shadow.proofs.Classes.{is_answering-asked}
use Rattle.client_shadow.proofs.shadow.Shadow.look.Goals as goal

pub returns-in-Number-clause-asks : goal.returns-in-Number-clause-asks
returns-in-Number-clause-asks c = is_answering-asked c.self.inside.tracked c.args.call.now c.in-Number.number (sym c.in-Number.ensures.number)
