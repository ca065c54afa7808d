-- How large what was read is. A script that is spelled keeps to these limits, which is proved; nothing is refused here.
use Rattle.std.specs.Prelude.{◌≡◌, ℕ, ◌<◌, ◌≤◌, List, [], ◌∷◌, length}
use Rattle.std.specs.List.{All}
use Rattle.script_reader.specs.ImageBytes.{script_bytes}
use Rattle.script_reader.specs.UploadBytes.{script_uploads}
use Rattle.script_reader.specs.declared.script.Act.{Act}
use Rattle.script_reader.specs.declared.script.Act.TheVariants.{Mem, Image, Gl}
use Rattle.script_reader.specs.declared.script.ContextSpec.{ContextSpec}
use Rattle.script_reader.specs.declared.script.Line.{Line}
use Rattle.script_reader.specs.declared.script.Script.{Script}

-- the sides of a context are 1 to 256 pixels, and its memory is at most 1,048,576 bytes; own
pub record IsContext (context : ContextSpec) : Type 0 where
  pub some_columns : 1 ≤ context.width
  pub few_columns : context.width ≤ 256
  pub some_rows : 1 ≤ context.height
  pub few_rows : context.height ≤ 256
  pub little_memory : context.memory ≤ 1048576

-- there is one context, and it keeps to its limits; own
abbrev pub HasOneContext : List ContextSpec → Type 0
HasOneContext contexts = (context : ContextSpec) × (contexts ≡ context ∷ []) × IsContext context

-- bytes are below 256, and go to a place below 2^32; own
pub record IsMem (at : ℕ) (bytes : List ℕ) : Type 0 where
  pub near : at ≤ 4294967295
  pub are_bytes : All (λ byte. byte < 256) bytes

-- the sides of an image are 1 to 256 pixels, and it comes from a place below 2^32; own
pub record IsImage (width height at : ℕ) : Type 0 where
  pub some_columns : 1 ≤ width
  pub few_columns : width ≤ 256
  pub some_rows : 1 ≤ height
  pub few_rows : height ≤ 256
  pub near : at ≤ 4294967295

-- what a line does keeps to its limits; own
abbrev pub IsAct : Act → Type 0
IsAct (Mem at bytes) = IsMem at bytes.items
IsAct (Image name width height at) = IsImage width height at
IsAct (Gl call) = Unit {0}

-- a line keeps to its limits; own
abbrev pub IsLine : Line → Type 0
IsLine line = IsAct line.act

-- the bytes are at most 8,388,608 and the lines that are carried out at most 262,144, each within its limits, there is one context, the images take at most 67,108,864 bytes, and the calls declare at most 268,435,456 bytes of uploads; own
pub record IsWithinLimits (bytes : List ℕ) (script : Script) : Type 0 where
  pub few_bytes : length bytes ≤ 8388608
  pub few_lines : length script.lines ≤ 262144
  pub lines : All IsLine script.lines
  pub one_context : HasOneContext script.contexts
  pub small_images : script_bytes script ≤ 67108864
  pub small_uploads : script_uploads script ≤ 268435456
