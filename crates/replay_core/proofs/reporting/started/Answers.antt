use Rattle.std.proofs.Common.{◌++◌, codes, sym, ap, ◌∙◌, arith}
use Rattle.std.proofs.lemmas.List.{append-nil}
use Rattle.replay_lines.specs.Results.{told_by}
use Rattle.replay_text.specs.Text.{plain_line}
use Rattle.replay_core.specs.Report.{answer_lines, done_line}
use Rattle.replay_core.proofs.Flats.{added_more}
use Rattle.replay_core.proofs.reporting.started.Goals as goal

pub loop-place-init : goal.loop-place-init
unfolding answer_lines
loop-place-init c =
    c.in_ok-plain.ensures.ok ∙ ap (λ text. text ++ plain_line (codes "glreport 1")) c.new-text.ensures ∙ sym (append-nil (plain_line (codes "glreport 1")))

pub loop-place-preserved : goal.loop-place-preserved
unfolding answer_lines
loop-place-preserved c =
    added_more done_line c.args.results.now c.loop-place.place (told_by c.at.result.now) (plain_line (codes "glreport 1")) c.loop-place.text c.answer.new.text
    (omega arith) c.at.ensures c.loop-place.invariant c.in_ok-answer.ensures
