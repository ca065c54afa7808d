use Rattle.std.proofs.Common.{ap, subst, ◌∙◌}
use Rattle.gl_tracked.specs.declared.tracked.Tracked.{Tracked}
use Rattle.batch_rail.specs.Maker.{IsLaunched}
use Rattle.gl_objects.specs.Step.{no_objects}
use Rattle.soft_driver.specs.Renderer.{soft_tracked}
use Rattle.frame_loop.proofs.Leading.{first_soft-tracked}
use Rattle.frame_loop.proofs.session.shown_over.Goals as goal

pub drawn_over-drawn-requires-clause-launched : goal.drawn_over-drawn-requires-clause-launched
drawn_over-drawn-requires-clause-launched g c κs within =
    let rails = g.M.Part.Made.RailState in
    subst (λ (first : Tracked). IsLaunched soft_tracked (rails.stands c.in-Ok.rail) (rails.failed c.in-Ok.rail) (rails.home c.in-Ok.rail) (rails.size c.in-Ok.rail) first)
    (ap soft_tracked c.in_ok-driver.ensures ∙ first_soft-tracked 0 256 256 no_objects)
    c.in-Ok.ensures.ok
