use Rattle.frame_loop.specs.Frame.{after_frames}
use Rattle.frame_loop.proofs.Leading.{OnOk-map, leads_back}
use Rattle.frame_loop.proofs.session.drawn_over.Goals as goal

pub returns-clause-drawn : goal.returns-clause-drawn
returns-clause-drawn g c =
    OnOk-map c.draw_all-drawn.result
    (λ leads. leads_back g.R.RailState.stands g.R.RailState.failed g.R.RailState.journal g.R.RailState.sent (after_frames c.args.asked.asks c.args.asked.frames)
    c.args.rail c.into_parts-rail.result.0 (g.R.RailState.size c.args.rail) c.args.memory c.in-Ok.front c.draw_all-drawn.new.front c.flush.new.self
    c.in-Ok.ensures.ok leads c.flush.ensures.flushed c.into_parts-rail.ensures.rail)
    c.draw_all-drawn.ensures.drawn
