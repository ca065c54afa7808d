-- The moments of calls: what a front knows just before each; own. Needed for counts and journals alone.
use Rattle.std.specs.Prelude.{ℕ, List, [], ◌∷◌, ◌++◌, map}
use Rattle.gl_words.specs.declared.call.Call.{Call}
use Rattle.gl_memory.specs.ClientMemory.{memory_of}
use Rattle.client_shadow.specs.Class.{issued_at}
use Rattle.client_shadow.specs.Cutting.{Issued}
use Rattle.gl_tracked.specs.declared.tracked.Tracked.{Tracked}
use Rattle.script_reader.specs.declared.script.Act.{Act}
use Rattle.script_reader.specs.declared.script.Act.TheVariants.{Mem, Image, Gl}
use Rattle.replay_lines.specs.Lines.{Ran, Standing, after_act}

-- a moment just before a call: the tracked state, client memory, and the call; own
pub record Moment : Type 0 where
  pub tracked : Tracked
  pub memory : List ℕ
  pub call : Call

-- the moment of a line's call, if it makes one; own
abbrev pub moments_at : Standing → Act → List Moment
moments_at here (Mem at bytes) = []
moments_at here (Image name width height at) = []
moments_at here (Gl call) = record { tracked = here.tracked; memory = here.memory; call = call } ∷ []

-- the moments of the calls of lines, one after another; own
unfoldable pub moments_by : Standing → List Ran → List Moment
moments_by here [] = []
moments_by here (one ∷ others) = moments_at here one.line.act ++ moments_by (after_act here one.line.act one.reply) others

-- a call as it is issued at a moment, with batches of so many slots; own
abbrev pub issued_in : ℕ → Moment → Issued
issued_in size moment = issued_at moment.tracked moment.call (memory_of moment.memory) size

-- the calls of lines as they are issued, with batches of so many slots; own
abbrev pub issued_by_lines : ℕ → Standing → List Ran → List Issued
issued_by_lines size here ran = map (issued_in size) (moments_by here ran)
