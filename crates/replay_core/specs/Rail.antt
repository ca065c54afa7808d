-- Lines that were run over a rail from its launch on, whichever rail and driver it is; own.
use Rattle.std.specs.Prelude.{◌≡◌, ℕ, List, [], map, Option}
use Rattle.batch_rail.specs.Rail.{Gains}
use Rattle.client_shadow.specs.Cutting.{batches_from, tally_of}
use Rattle.gl_tracked.specs.declared.tracked.Tracked.{Tracked}
use Rattle.gl_tracked.specs.Tracked.{first_tracked}
use Rattle.driver_trait.specs.Driver.{Steps}
use Rattle.gl_front.specs.declared.counts.Counts.{Counts}
use Rattle.script_reader.specs.declared.script.Line.{Line}
use Rattle.replay_lines.specs.Lines.{Ran, Standing, told_by_lines, StepsThrough}
use Rattle.replay_lines.specs.Moments.{issued_by_lines}
use Rattle.replay_lines.specs.Results.{DoneView}
use Rattle.replay_core.specs.Report.{counted}
use Rattle.replay_core.specs.World.{Batches}

-- a context at its start, over this client memory; own
abbrev pub at_start : List ℕ → Standing
at_start memory = record { tracked = first_tracked; memory = memory }

-- a journal that is told was extended by some batches; own
abbrev pub GainsSome : Option Batches → Option Batches → Type 0
GainsSome old new = (more : Batches) × Gains old new more

-- where lines are run over a rail: the size of its batches in slots, client memory at the start, and the rail as it was launched and as it was given back; own
pub record Course (R : Type 0) : Type 0 where
  pub size : ℕ
  pub memory : List ℕ
  pub launched : R
  pub back : R

module _ {R S : Type 0} (tracked : S → Tracked) (steps : Steps S) (stands : R → S → Type 0) (journal : R → Option Batches) where
  -- lines were run over a rail, with some replies: this is what they told. Each state that the rail stands for now was reached by them, with just these replies, from one that it stood for. Their calls were counted, and their batches handed over; own
  pub record RunsOver (course : Course R) (lines : List Line) (told : List DoneView) (counts : Counts) : Type 0 where
    pub ran : List Ran
    pub each : map (λ (one : Ran). one.line) ran ≡ lines
    pub all_told : told ≡ told_by_lines (at_start course.memory) ran
    pub leads : (st2 : S) → stands course.back st2 → (st : S) × stands course.launched st × StepsThrough tracked steps (at_start course.memory) ran st st2
    pub all_counted : counted counts ≡ tally_of course.size (issued_by_lines course.size (at_start course.memory) ran)
    pub handed_over : Gains (journal course.launched) (journal course.back) (batches_from course.size [] (issued_by_lines course.size (at_start course.memory) ran))
