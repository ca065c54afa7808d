-- The calls of the direct machine, each at the moment just before it. Needed for counts and batches alone; own.
use Rattle.std.specs.Prelude.{ℕ, List, [], ◌∷◌, ◌++◌, map}
use Rattle.client_shadow.specs.Cutting.{Issued}
use Rattle.script_reader.specs.declared.script.Act.{Act}
use Rattle.script_reader.specs.declared.script.Act.TheVariants.{Mem, Image, Gl}
use Rattle.script_reader.specs.declared.script.Line.{Line}
use Rattle.replay_lines.specs.Lines.{lines_in}
use Rattle.replay_lines.specs.Moments.{Moment, issued_in}
use Rattle.replay_core.specs.Direct.{Reached, past_line, start_of}
use Rattle.replay_core.specs.Script.{Scripted}

-- the moment of a line's call, if it makes one; own
abbrev pub moments_here : Reached → Act → List Moment
moments_here here (Mem at bytes) = []
moments_here here (Image name width height at) = []
moments_here here (Gl call) = record { tracked = here.own.state.tracked; memory = here.memory; call = call } ∷ []

-- the moments of the calls of lines, one after another; own
unfoldable pub moments_past : Reached → List Line → List Moment
moments_past here [] = []
moments_past here (line ∷ lines) = moments_here here line.act ++ moments_past (past_line here line) lines

-- the calls of a script's context as they are issued, with batches of so many slots; own
unfoldable pub calls_of : ℕ → ℕ → Scripted → List Issued
calls_of size context script = map (issued_in size) (moments_past (start_of context script) (lines_in context script.lines))
