-- The report of a script, each line of it made of what was told; own.
use Rattle.std.specs.Prelude.{ℕ, List, [], ◌∷◌, ◌++◌, codes, length}
use Rattle.std.specs.List.{flat_map}
use Rattle.gl_words.specs.Call.{name_of}
use Rattle.client_shadow.specs.Cutting.{Tally, tally_of}
use Rattle.gl_front.specs.declared.counts.Counts.{Counts}
use Rattle.replay_lines.specs.Results.{Answer, DoneView, Picture, Shown}
use Rattle.replay_text.specs.Text.{answer_line, counts_line, number_line, plain_line}
use Rattle.replay_text.specs.declared.asked.Command.{Command}
use Rattle.replay_text.specs.declared.asked.Command.TheVariants.{Run, Direct}
use Rattle.replay_core.specs.Calls.{calls_of}
use Rattle.replay_core.specs.Direct.{end_of}
use Rattle.replay_core.specs.Images.{images_of}
use Rattle.replay_core.specs.Script.{Scripted}

-- the line of what a line of this number and context told: a call's answer has one, an image none; own
abbrev pub shown_line : ℕ → ℕ → Shown → List ℕ
shown_line number context (Answer call numbers) = answer_line number context (name_of call) numbers
shown_line number context (Picture name width height bytes) = []

-- the line of what was told, if it has one; own
abbrev pub done_line : DoneView → List ℕ
done_line done = shown_line done.number done.context done.shown

-- the lines of what was told, in order; own
unfoldable pub answer_lines : List DoneView → List ℕ
answer_lines told = flat_map done_line told

-- the counts of a front as those of a line of counts; own
abbrev pub counted : Counts → Tally
counted counts = record { deferred = counts.deferred; synchronised = counts.synchronised; answered = counts.answered; batches = counts.batches }

-- the line of a context's counts; own
abbrev pub tally_line : ℕ → Tally → List ℕ
tally_line context tally = counts_line context (tally.deferred ∷ tally.synchronised ∷ tally.answered ∷ tally.batches ∷ [])

-- the report of what was told, with lines of counts, and of so many images; own
unfoldable pub report_text : List DoneView → List ℕ → ℕ → List ℕ
report_text told counts images = plain_line (codes "glreport 1") ++ (answer_lines told ++ (counts ++ (number_line (codes "images") images ++ plain_line (codes "end"))))

-- the lines of counts of a script's context by a command: of `run` one, of `direct` none; own
abbrev pub counts_for : Command → ℕ → Scripted → List ℕ
counts_for (Run batch ring rail) context script = tally_line context (tally_of batch (calls_of batch context script))
counts_for Direct context script = []

-- the report of a script's context by a command; own
unfoldable pub report_for : Command → ℕ → Scripted → List ℕ
report_for asked context script = report_text (end_of context script).told (counts_for asked context script) (length (images_of context script))
