use Rattle.std.proofs.Common.{◌+◌, ◌-◌, ◌^◌, arith}
use Rattle.frame_loop.proofs.Rising.{IsLow-up_to, rises_on}
use Rattle.frame_loop.proofs.Leading.{OnOk-map, three_lead}
use Rattle.frame_loop.proofs.frame.draw.Goals as goal

pub returns-in_err-make-2-clause-rises : goal.returns-in_err-make-2-clause-rises
returns-in_err-make-2-clause-rises g c =
    rises_on g.R.RailState.sent 2 2 6 c.args.front.now c.make.new.front c.make-2.new.front (omega arith) c.in_ok-make.ensures.rises c.in_err-make-2.ensures.rises

pub make-requires-3-clause-low : goal.make-requires-3-clause-low
make-requires-3-clause-low g c κs live =
    IsLow-up_to g.R.RailState.sent (2 ^ 61 + 2 + 2) (2 ^ 62 - 2) c.make-2.new.front (omega arith)
    (c.in_ok-make-2.ensures.rises (2 ^ 61 + 2) (c.in_ok-make.ensures.rises (2 ^ 61) c.requires.low))

pub returns-clause-drawn : goal.returns-clause-drawn
returns-clause-drawn g c =
    OnOk-map c.make-3.result
    (λ last. three_lead g.R.RailState.stands c.args.number c.colour_of.result c.args.front.now c.make.new.front c.make-2.new.front c.make-3.new.front
    c.colour_of.ensures c.in_ok-make.ensures.made c.in_ok-make-2.ensures.made last)
    c.make-3.ensures.made

pub returns-clause-rises : goal.returns-clause-rises
returns-clause-rises g c =
    rises_on g.R.RailState.sent 4 2 6 c.args.front.now c.make-2.new.front c.make-3.new.front (omega arith)
    (rises_on g.R.RailState.sent 2 2 4 c.args.front.now c.make.new.front c.make-2.new.front (omega arith) c.in_ok-make.ensures.rises c.in_ok-make-2.ensures.rises)
    c.make-3.ensures.rises
