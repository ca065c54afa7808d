-- What putting images and writing a report leaves, for each status; own.
use Rattle.std.specs.Prelude.{◌≡◌, ◌⊎◌, ◌<◌, ℕ, List, Option, length, take}
use Rattle.gl_outside.specs.Moved.{Adds, AddsPart}
use Rattle.replay_core.specs.World.{File}
use Rattle.replay_text.specs.declared.status.Status.{Status}
use Rattle.replay_text.specs.declared.status.Status.TheVariants.{Ok as Done, BadWords, ReadFault, BadScript, ShelfFault, WriteFault, NoMemory}

-- what the sink holds and the files on the shelf; own
pub record Stored : Type 0 where
  pub held : Option (List ℕ)
  pub files : Option (List File)

-- all images were put, and a beginning of the report was written; own
pub record PutAll (images : List File) (report : List ℕ) (before after : Stored) : Type 0 where
  pub put : Adds before.files after.files images
  pub written : AddsPart before.held after.held report

-- the first of the images were put, so many and not all, and nothing was written; own
pub record PutFirst (count : ℕ) (images : List File) (before after : Stored) : Type 0 where
  pub fewer : count < length images
  pub put : Adds before.files after.files (take count images)
  pub unwritten : after.held ≡ before.held

-- a beginning of the images was put, and nothing was written; own
pub record PutPart (images : List File) (before after : Stored) : Type 0 where
  pub put : AddsPart before.files after.files images
  pub unwritten : after.held ≡ before.held

-- all images were put, and the report was written; own
pub record PutWhole (images : List File) (report : List ℕ) (before after : Stored) : Type 0 where
  pub put : Adds before.files after.files images
  pub written : Adds before.held after.held report

-- what stands after each status; own
abbrev pub Delivers : Status → List File → List ℕ → Stored → Stored → Type 0
Delivers Done images report before after = PutWhole images report before after
Delivers (ShelfFault stored) images report before after = PutFirst stored images before after
Delivers WriteFault images report before after = PutAll images report before after
Delivers NoMemory images report before after = PutPart images before after ⊎ PutAll images report before after
Delivers BadWords images report before after = ⊥
Delivers ReadFault images report before after = ⊥
Delivers (BadScript error) images report before after = ⊥

-- what putting images leaves, for each status; own
abbrev pub Puts : Status → List File → Option (List File) → Option (List File) → Type 0
Puts Done images before after = Adds before after images
Puts (ShelfFault stored) images before after = (stored < length images) × Adds before after (take stored images)
Puts NoMemory images before after = AddsPart before after images
Puts BadWords images before after = ⊥
Puts ReadFault images before after = ⊥
Puts (BadScript error) images before after = ⊥
Puts WriteFault images before after = ⊥

-- what writing a report leaves, for each status; own
abbrev pub Writes : Status → List ℕ → Option (List ℕ) → Option (List ℕ) → Type 0
Writes Done report before after = Adds before after report
Writes WriteFault report before after = AddsPart before after report
Writes NoMemory report before after = AddsPart before after report
Writes BadWords report before after = ⊥
Writes ReadFault report before after = ⊥
Writes (BadScript error) report before after = ⊥
Writes (ShelfFault stored) report before after = ⊥
