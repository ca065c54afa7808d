use Rattle.std.proofs.Common.{◌≡◌, ◌*◌, []}
use Rattle.frame_loop.specs.Counts.{IsLow}
use Rattle.frame_loop.specs.Frame.{after_frames, LeadsBy}
use Rattle.frame_loop.specs.Work.{sum_of}
use Rattle.frame_loop.proofs.frame.draw_all.Given as goal

-- the frames so far were drawn, and little was counted
abbrev pub invariant-loop-frame : goal.invariant-loop-frame
invariant-loop-frame g l = record {
  drawn : LeadsBy g.R.RailState.stands (after_frames l.fn.asked.asks l.frame) l.fn.front l.front;
  memory : l.front.memory ≡ [];
  low : IsLow g.R.RailState.sent (8 * l.frame) l.front;
  sum : l.number ≡ sum_of l.fn.asked.work l.frame;
}
