use Rattle.client_shadow.proofs.Classes.{none-not_answer}
use Rattle.client_shadow.proofs.shadow.Shadow.answer.Goals as goal

pub returns-clause-none : goal.returns-clause-none
returns-clause-none c =
    rw (← c.self.view_is) (λ memory slots. none-not_answer c.self.inside.tracked c.args.call.now memory slots c.asked.result c.asked.ensures)
