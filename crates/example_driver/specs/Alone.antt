-- What a driver tells of lines by itself; own. No rail, front or batch stands here.
use Rattle.std.specs.Prelude.{◌≡◌, List, map}
use Rattle.gl_tracked.specs.declared.tracked.Tracked.{Tracked}
use Rattle.driver_trait.specs.Driver.{Steps}
use Rattle.script_reader.specs.declared.script.Line.{Line}
use Rattle.replay_lines.specs.Lines.{Ran, Standing, told_by_lines, StepsThrough}
use Rattle.replay_lines.specs.Results.{DoneView}

-- there are replies with which lines lead a driver from this state to another, each call carried out as it is made, on client memory that was this at the start, and this is what they tell; own
pub record TellsAlone {S : Type 0} (tracked : S → Tracked) (steps : Steps S) (here : Standing) (lines : List Line) (st st2 : S) (told : List DoneView) : Type 0 where
  pub ran : List Ran
  pub each : map (λ (one : Ran). one.line) ran ≡ lines
  pub tells : told ≡ told_by_lines here ran
  pub leads : StepsThrough tracked steps here ran st st2
