-- What `run_lines` asks of lines and counts, and by how much the counts rise; own.
use Rattle.std.specs.Prelude.{ℕ, ◌+◌, ◌^◌, ◌<◌, ◌≤◌}
use Rattle.gl_front.specs.declared.counts.Counts.{Counts}
use Rattle.script_reader.specs.declared.script.Act.{Act}
use Rattle.script_reader.specs.declared.script.Act.TheVariants.{Mem, Image, Gl}
use Rattle.script_reader.specs.declared.script.Line.{Line}

-- the most lines of a script; own
abbrev pub most_lines : ℕ
most_lines = 262144

-- the sides of an image are at most 256 pixels; own
pub record AreShort (width height : ℕ) : Type 0 where
  pub few_columns : width ≤ 256
  pub few_rows : height ≤ 256

-- an image that is taken is a small one; own
abbrev pub TakesLittle : Act → Type 0
TakesLittle (Mem at bytes) = Unit {0}
TakesLittle (Image name width height at) = AreShort width height
TakesLittle (Gl call) = Unit {0}

-- an image line takes an image with sides of at most 256 pixels; own
abbrev pub IsSmall : Line → Type 0
IsSmall line = TakesLittle line.act

-- each count is low enough for a script's lines; own
pub record AllLow (counts : Counts) : Type 0 where
  pub deferred : counts.deferred < 2 ^ 61
  pub synchronised : counts.synchronised < 2 ^ 61
  pub answered : counts.answered < 2 ^ 61
  pub batches : counts.batches < 2 ^ 61

-- a count never fell, and rose by at most this; own
pub record RisesBy (old new most : ℕ) : Type 0 where
  pub never_falls : old ≤ new
  pub at_most : new ≤ old + most

-- each count rose by at most this, and never fell; own
pub record AllRiseBy (old new : Counts) (most : ℕ) : Type 0 where
  pub deferred : RisesBy old.deferred new.deferred most
  pub synchronised : RisesBy old.synchronised new.synchronised most
  pub answered : RisesBy old.answered new.answered most
  pub batches : RisesBy old.batches new.batches most
