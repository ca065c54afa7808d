use Rattle.std.proofs.Common.{sym, ◌∙◌, arith}
use Rattle.frame_loop.proofs.Rising.{rises_on}
use Rattle.frame_loop.proofs.Leading.{asked_leads, unasked_leads}
use Rattle.frame_loop.proofs.frame.draw_and_ask.Goals as goal

pub returns-in_err-make-clause-rises : goal.returns-in_err-make-clause-rises
returns-in_err-make-clause-rises g c =
    rises_on g.R.RailState.sent 6 2 8 c.args.front.now c.draw.new.front c.make.new.front (omega arith) c.in_ok-draw.ensures.rises c.in_err-make.ensures.rises

pub returns-in_ok-make-clause-drawn : goal.returns-in_ok-make-clause-drawn
returns-in_ok-make-clause-drawn g c =
    asked_leads g.R.RailState.stands c.args.asks c.args.number c.args.front.now c.draw.new.front c.make.new.front (sym c.is_asked.ensures ∙ c.if-is_asked.true)
    c.in_ok-draw.ensures.drawn c.in_ok-make.ensures.made

pub returns-in_ok-make-clause-rises : goal.returns-in_ok-make-clause-rises
returns-in_ok-make-clause-rises g c =
    rises_on g.R.RailState.sent 6 2 8 c.args.front.now c.draw.new.front c.make.new.front (omega arith) c.in_ok-draw.ensures.rises c.in_ok-make.ensures.rises

pub returns-else-is_asked-clause-drawn : goal.returns-else-is_asked-clause-drawn
returns-else-is_asked-clause-drawn g c =
    unasked_leads g.R.RailState.stands c.args.asks c.args.number c.args.front.now c.draw.new.front (sym c.is_asked.ensures ∙ c.if-is_asked.false) c.in_ok-draw.ensures.drawn
