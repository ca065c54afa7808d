use Rattle.std.proofs.Common.{List, length, ap, ◌∙◌}
use Rattle.replay_core.specs.Report.{counted, tally_line}
use Rattle.replay_core.specs.Script.{seen_script}
use Rattle.replay_core.specs.World.{File}
use Rattle.replay_core.proofs.Reports.{report_is}
use Rattle.replay_core.proofs.run.report_of_run.Goals as goal

pub returns : goal.returns
returns c =
    report_is c.args.asked c.args.context (seen_script c.args.script.now) c.args.results.now (tally_line c.args.context (counted c.args.counts.now)) _ c.in_ok-text.text c.in_ok-text.ensures
    c.requires.told c.requires.counts (c.len.ensures ∙ c.args.images.now.ok.0 ∙ ap (λ (files : List File). length files) c.requires.images)
