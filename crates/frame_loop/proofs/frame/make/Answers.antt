use Rattle.gl_front.specs.Given.{given_by}
use Rattle.frame_loop.proofs.Leading.{taken_leads, stays_empty}
use Rattle.frame_loop.proofs.frame.make.Goals as goal

pub returns-clause-made : goal.returns-clause-made
returns-clause-made g c =
    taken_leads g.R.RailState.stands g.R.RailState.failed g.R.RailState.journal g.R.RailState.sent c.args.front.now c.issue.new.self c.args.call.now (given_by c.in_ok-_reply._reply)
    c.requires.memory c.in_ok-_reply.ensures.ok

pub returns-clause-memory : goal.returns-clause-memory
returns-clause-memory g c =
    stays_empty c.args.front.now.tracked c.args.call.now (given_by c.in_ok-_reply._reply) c.args.front.now.memory c.issue.new.self.memory c.requires.memory c.in_ok-_reply.ensures.ok.memory
