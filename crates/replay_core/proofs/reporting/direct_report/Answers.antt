use Rattle.std.proofs.Common.{◌++◌, ap, ◌∙◌, codes}
use Rattle.replay_text.specs.Text.{number_line, plain_line}
use Rattle.replay_core.specs.Report.{answer_lines, report_text}
use Rattle.replay_core.proofs.Flats.{parts_of_direct_report}
use Rattle.replay_core.proofs.reporting.direct_report.Goals as goal

pub returns : goal.returns
unfolding report_text
returns c =
    let images = number_line (codes "images") c.args.images in
    let last = plain_line (codes "end") in
    c.in_ok-end.ensures ∙ ap (λ text. text ++ (images ++ last)) c.in_ok-text.ensures
    ∙ parts_of_direct_report (plain_line (codes "glreport 1")) (answer_lines c.args.results.now) images last
