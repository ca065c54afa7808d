use Rattle.std.proofs.Common.{Bool, ap, ◌∙◌}
use Rattle.fragment_ops.specs.Cell.{cell_after_clear}
use Rattle.fragment_ops.specs.Frame.{FrameView, frame_changed}
use Rattle.fragment_ops.specs.declared.state.FragmentState.{FragmentState}
use Rattle.gl_state.specs.Settings.{fragment_state_of}
use Rattle.soft_driver.specs.Own.{clears_colour}
use Rattle.soft_driver.proofs.soft.clear.Goals as goal

pub returns : goal.returns
returns c =
    let mask = c.args.mask in
    let state = fragment_state_of c.args.state.now.settings in
    let cleared : FragmentState → Bool → Bool → FrameView = λ s colour depth. frame_changed (λ place. cell_after_clear place s colour depth) c.args.frame.now in
    c.clear.ensures
    ∙ ap (λ (s : FragmentState). cleared s c.clears_colour.result c.clears_depth.result) c.fragment_state-fragments.ensures.state
    ∙ ap (λ (colour : Bool). cleared state colour c.clears_depth.result) c.clears_colour.ensures
    ∙ ap (λ (depth : Bool). cleared state (clears_colour mask) depth) c.clears_depth.ensures
