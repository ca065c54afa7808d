-- What stands after a run, for each row of the table of answers; own.
use Rattle.std.specs.Prelude.{◌≡◌, ℕ, ◌+◌, ◌≤◌, ◌<◌, ◌⊎◌, List, length, String, take, Option, None, Some, Ok, Err}
use Rattle.gl_outside.specs.Moved.{Takes, TakesAtMost, Adds, AddsPart, IsAtEnd}
use Rattle.script_reader.specs.declared.error.ScriptError.{ScriptError}
use Rattle.script_reader.specs.declared.script.Script.{Script}
use Rattle.script_reader.specs.Grammar.{script_of}
use Rattle.replay_text.specs.declared.asked.Command.{Command}
use Rattle.replay_text.specs.Words.{command_of, texts_of}
use Rattle.replay_core.specs.Script.{only_number, seen_script}
use Rattle.replay_core.specs.Images.{images_of}
use Rattle.replay_core.specs.Report.{report_for}
use Rattle.replay_core.specs.Journals.{batches_for, HandsOver, HandsOverSome}
use Rattle.replay_core.specs.World.{Batches, File, NothingFailed, World}

-- the most bytes of a script; own
abbrev pub most_bytes : ℕ
most_bytes = 8388608

-- words ask for a command; own
abbrev pub Ask : {Z : Type 0} → List (String Z) → Command → Type 0
Ask words asked = command_of (texts_of words) ≡ Some asked

-- words ask for nothing; own
abbrev pub AskNothing : {Z : Type 0} → List (String Z) → Type 0
AskNothing words = command_of (texts_of words) ≡ None

-- the images of a script, those of the direct machine; own
abbrev pub images_due : Script → List File
images_due script = images_of only_number (seen_script script)

-- the report of a script by a command, that of the direct machine; own
abbrev pub report_due : Command → Script → List ℕ
report_due asked script = report_for asked only_number (seen_script script)

-- the batches of a script that a command hands over, those of the calls of the direct machine; own
abbrev pub batches_due : Command → Script → Batches
batches_due asked script = batches_for asked only_number (seen_script script)

-- the bytes that were left are this script, and were read to their end; own
pub record ReadsScript (script : Script) (left_before left_after : Option (List ℕ)) : Type 0 where
  pub bytes : List ℕ
  pub taken : Takes left_before left_after bytes
  pub at_end : IsAtEnd left_after
  pub is_script : script_of bytes ≡ Ok script

-- the bytes that were taken are refused with this error; they were all, or one more than a script may have; own
pub record ReadsNoScript (error : ScriptError) (left_before left_after : Option (List ℕ)) : Type 0 where
  pub bytes : List ℕ
  pub taken : Takes left_before left_after bytes
  pub no_more : length bytes ≤ most_bytes + 1
  pub enough : IsAtEnd left_after ⊎ (length bytes ≡ most_bytes + 1)
  pub is_refused : script_of bytes ≡ Err error

-- the script was read, and its batches were handed over; own
pub record Runs (asked : Command) (script : Script) (before after : World) : Type 0 where
  pub read : ReadsScript script before.left after.left
  pub handed_over : HandsOver only_number (batches_due asked script) before.journal after.journal

-- a script was run, all its images were put, its report was written, and the counts of failures are as they were; own
pub record Replays (asked : Command) (before after : World) : Type 0 where
  pub script : Script
  pub runs : Runs asked script before after
  pub put : Adds before.files after.files (images_due script)
  pub written : Adds before.held after.held (report_due asked script)
  pub sound : NothingFailed before after

-- a script was run, and the first of its images were put, so many and not all; own
pub record PutsSome (asked : Command) (stored : ℕ) (before after : World) : Type 0 where
  pub script : Script
  pub runs : Runs asked script before after
  pub fewer : stored < length (images_due script)
  pub put : Adds before.files after.files (take stored (images_due script))

-- a script was run, all its images were put, and a beginning of its report was written; own
pub record WritesSome (asked : Command) (before after : World) : Type 0 where
  pub script : Script
  pub runs : Runs asked script before after
  pub put : Adds before.files after.files (images_due script)
  pub written : AddsPart before.held after.held (report_due asked script)

-- a script was run, a beginning of its images was put, and nothing was written; own
pub record StoresSome (asked : Command) (before after : World) : Type 0 where
  pub script : Script
  pub runs : Runs asked script before after
  pub put : AddsPart before.files after.files (images_due script)
  pub unwritten : after.held ≡ before.held

-- some bytes were read, some batches were handed over, and nothing was put or written; own
pub record PutsNothing (before after : World) : Type 0 where
  pub read : TakesAtMost (most_bytes + 1) before.left after.left
  pub handed_over : HandsOverSome only_number before.journal after.journal
  pub unput : after.files ≡ before.files
  pub unwritten : after.held ≡ before.held

-- where want of memory may end a run: before the first image, before the report, or within it; and the counts of failures are as they were; own
abbrev pub StopsAnywhere : Command → World → World → Type 0
StopsAnywhere asked before after =
    NothingFailed before after × (PutsNothing before after ⊎ (StoresSome asked before after ⊎ WritesSome asked before after))
