use Rattle.std.proofs.Common.{ap, ◌∙◌}
use Rattle.gl_state.specs.Step.{fault_in}
use Rattle.gl_state.proofs.Stepping.{fault_of-planned}
use Rattle.soft_driver.proofs.Frames.{frame_after-no_drawing}
use Rattle.soft_driver.proofs.soft.draw.Goals as goal

pub draw_planned-requires : goal.draw_planned-requires
draw_planned-requires g c = record { no_fault = fault_of-planned c.args.state.now c.args.call.now c.args.plan c.requires.plan ∙ ap fault_in c.in-Draw.is }

pub returns-in-Draw : goal.returns-in-Draw
returns-in-Draw g c = rw c.in-Draw.is c.draw_planned.ensures

pub returns-in_default : goal.returns-in_default
returns-in_default g c =
    frame_after-no_drawing c.args.state.now c.args.frame.now c.args.objects.now (g.M.Memory.segments c.args.memory.now) c.args.call.now c.args.plan c.requires.plan c.in_default.not-Draw
