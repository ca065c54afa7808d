-- The report of a script, from its parts.
use Rattle.std.proofs.Common.{◌≡◌, ℕ, List, length, ap, ◌∙◌}
use Rattle.replay_lines.specs.Results.{DoneView}
use Rattle.replay_text.specs.declared.asked.Command.{Command}
use Rattle.replay_core.specs.Direct.{end_of}
use Rattle.replay_core.specs.Images.{images_of}
use Rattle.replay_core.specs.Report.{counts_for, report_for, report_text}
use Rattle.replay_core.specs.Script.{Scripted}

pub report_is : (asked : Command) (context : ℕ) (script : Scripted) (told : List DoneView) (counts : List ℕ) (images : ℕ) (text : List ℕ)
    → text ≡ report_text told counts images → told ≡ (end_of context script).told → counts ≡ counts_for asked context script → images ≡ length (images_of context script)
    → text ≡ report_for asked context script
unfolding report_for
report_is asked context script told counts images text is is_told are_counts so_many =
    is
    ∙ ap (λ (t : List DoneView). report_text t counts images) is_told
    ∙ ap (λ (n : List ℕ). report_text (end_of context script).told n images) are_counts
    ∙ ap (λ (n : ℕ). report_text (end_of context script).told (counts_for asked context script) n) so_many
