use Rattle.std.proofs.Common.{List, [], length, refl, ap, ◌∙◌}
use Rattle.replay_text.specs.declared.asked.Command.TheVariants.{Direct}
use Rattle.replay_core.specs.Script.{seen_script}
use Rattle.replay_core.specs.World.{File}
use Rattle.replay_core.proofs.Reports.{report_is}
use Rattle.replay_core.proofs.run.report_of_direct.Goals as goal

pub returns : goal.returns
returns c =
    report_is Direct c.args.context (seen_script c.args.script.now) c.args.results.now [] _ c.in_ok-text.text c.in_ok-text.ensures
    c.requires.told refl (c.len.ensures ∙ c.args.images.now.ok.0 ∙ ap (λ (files : List File). length files) c.requires.images)
