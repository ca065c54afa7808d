-- Lines that were carried out one after another on a driver, whichever it is; own.
use Rattle.std.specs.Prelude.{◌≡◌, ℕ, List, ◌++◌, map}
use Rattle.gl_tracked.specs.declared.tracked.Tracked.{Tracked}
use Rattle.driver_trait.specs.Driver.{Steps}
use Rattle.script_reader.specs.declared.script.Line.{Line}
use Rattle.replay_lines.specs.Lines.{Ran, Standing, after_lines, told_by_lines, StepsThrough}
use Rattle.replay_lines.specs.Results.{DoneView}

-- a driver and its client memory, and what was told; own
pub record PlainView (S : Type 0) : Type 0 where
  pub driver : S
  pub memory : List ℕ
  pub told : List DoneView

-- its context as it stands: the tracked part of the driver's state, and client memory; own
abbrev pub standing_by : {S : Type 0} → (S → Tracked) → PlainView S → Standing
standing_by tracked plain = record { tracked = tracked plain.driver; memory = plain.memory }

module _ {S : Type 0} (tracked : S → Tracked) (steps : Steps S) where
  -- lines were carried out, with some replies: they lead the driver from state to state, and tracked state, client memory and what was told went on, as these replies give it; own
  pub record CarriesOut (lines : List Line) (old new : PlainView S) : Type 0 where
    pub ran : List Ran
    pub each : map (λ (one : Ran). one.line) ran ≡ lines
    pub told : new.told ≡ old.told ++ told_by_lines (standing_by tracked old) ran
    pub stand : standing_by tracked new ≡ after_lines (standing_by tracked old) ran
    pub leads : StepsThrough tracked steps (standing_by tracked old) ran old.driver new.driver
