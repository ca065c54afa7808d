use Rattle.client_shadow.proofs.shadow.Shadow.wait_or_defer.Goals as goal

pub returns-clause-heading : goal.returns-clause-heading
returns-clause-heading c = c.heading_of-heading.ensures c.args.call.now c.args.memory.now c.requires.row
