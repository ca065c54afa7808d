use Rattle.std.proofs.Common.{◌≡◌, ℕ, ◌+◌, ◌*◌, sym, ap, subst, ◌∙◌, arith}
use Rattle.frame_loop.specs.Frame.{after_frames, LeadsBy}
use Rattle.frame_loop.specs.Work.{worked}
use Rattle.frame_loop.proofs.Rising.{IsLow-up_to}
use Rattle.frame_loop.proofs.Leading.{frames_lead, sum_of-next}
use Rattle.frame_loop.proofs.frame.draw_all.Goals as goal

pub loop-frame-preserved : goal.loop-frame-preserved
loop-frame-preserved g c =
    let frame = c.loop-frame.frame in
    let work = c.args.asked.work in
    record {
      drawn = frames_lead g.R.RailState.stands c.args.asked.asks frame c.args.front.now c.loop-frame.front c.draw_and_ask.new.front c.loop-frame.invariant.drawn c.in_ok-draw_and_ask.ensures.drawn;
      memory = c.in_ok-draw_and_ask.ensures.memory;
      low = IsLow-up_to g.R.RailState.sent (8 * frame + 8) (8 * (frame + 1)) c.draw_and_ask.new.front (omega arith) (c.in_ok-draw_and_ask.ensures.rises (8 * frame) c.loop-frame.invariant.low);
      sum = c.worked-number.ensures ∙ ap (λ (n : ℕ). worked n work) c.loop-frame.invariant.sum ∙ sym (sum_of-next work frame);
    }

pub returns-clause-drawn : goal.returns-clause-drawn
returns-clause-drawn g c =
    let all : c.loop-frame.frame ≡ c.args.asked.frames = omega (arith, c.loop-frame-test.false, c.loop-frame.auto.frame-end) in
    subst (λ (n : ℕ). LeadsBy g.R.RailState.stands (after_frames c.args.asked.asks n) c.args.front.now c.loop-frame.front) all c.loop-frame.invariant.drawn
