use Rattle.std.proofs.Common.{ap, ◌∙◌, replicate}
use Rattle.script_reader.specs.declared.script.ContextSpec.{ContextSpec}
use Rattle.gl_objects.specs.Step.{no_objects}
use Rattle.soft_driver.specs.Renderer.{first_soft}
use Rattle.replay_core.specs.Script.{seen_script}
use Rattle.replay_core.proofs.Endings.{carried_to_end}
use Rattle.replay_core.proofs.plain.direct.Goals as goal

pub returns-clause-told : goal.returns-clause-told
returns-clause-told g c =
    let sides = c.only_context-sides.ensures.context in
    let at_end = carried_to_end c.args.context (seen_script c.args.script.now) c.in_ok-soft.soft c.in_ok-memory.memory c.as_slice.result.now
    (c.in_ok-soft.ensures ∙ ap (λ (k : ContextSpec). first_soft c.args.context k.width k.height no_objects) sides)
    (c.in_ok-memory.ensures.ok ∙ ap (λ (k : ContextSpec). replicate k.memory 0) sides)
    c.as_slice.ensures c.new-plain.result c.carry_out.new.self c.new-plain.ensures c.in_ok-carry_out.ensures in
    c.into_parts-soft.ensures.told ∙ at_end.is_told

pub returns-clause-soft : goal.returns-clause-soft
returns-clause-soft g c =
    let sides = c.only_context-sides.ensures.context in
    let at_end = carried_to_end c.args.context (seen_script c.args.script.now) c.in_ok-soft.soft c.in_ok-memory.memory c.as_slice.result.now
    (c.in_ok-soft.ensures ∙ ap (λ (k : ContextSpec). first_soft c.args.context k.width k.height no_objects) sides)
    (c.in_ok-memory.ensures.ok ∙ ap (λ (k : ContextSpec). replicate k.memory 0) sides)
    c.as_slice.ensures c.new-plain.result c.carry_out.new.self c.new-plain.ensures c.in_ok-carry_out.ensures in
    c.into_parts-soft.ensures.driver ∙ at_end.is_soft
