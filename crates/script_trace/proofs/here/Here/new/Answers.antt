use Rattle.std.proofs.Common.{ap, sym, ◌∙◌}
use Rattle.gl_objects.specs.Step.{no_objects}
use Rattle.soft_driver.specs.Renderer.{soft_tracked}
use Rattle.replay_core.proofs.DirectLemmas.{first_soft-tracked}
use Rattle.script_trace.proofs.Meeting.{within_first}
use Rattle.script_trace.proofs.here.Here.new.Goals as goal

pub invariant_of-result : goal.invariant_of-result
invariant_of-result c = record {
  batch_size = c.requires.size;
  same_tracked = c.new-3.ensures ∙ sym (first_soft-tracked c.args.context c.args.spec.width c.args.spec.height no_objects) ∙ ap soft_tracked (sym c.in_ok-direct.ensures);
  within = within_first c.args.size c.first.result c.first.ensures;
}
