use Rattle.std.proofs.Common.{◌≡◌, ◌++◌, take, codes}
use Rattle.replay_text.specs.Text.{plain_line}
use Rattle.replay_core.specs.Report.{answer_lines}
use Rattle.replay_core.proofs.reporting.started.Given as goal

-- the lines of what was told so far
abbrev pub invariant-loop-place : goal.invariant-loop-place
invariant-loop-place l = l.text ≡ plain_line (codes "glreport 1") ++ answer_lines (take l.place l.results)
