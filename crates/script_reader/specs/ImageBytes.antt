-- How many bytes the images of a script take; own.
use Rattle.std.specs.Prelude.{ℕ, ◌+◌, ◌*◌}
use Rattle.std.specs.List.{sum_by}
use Rattle.script_reader.specs.declared.before.Said.{Said}
use Rattle.script_reader.specs.declared.before.Said.TheVariants.{Context, Body}
use Rattle.script_reader.specs.declared.script.Act.{Act}
use Rattle.script_reader.specs.declared.script.Act.TheVariants.{Image}
use Rattle.script_reader.specs.declared.script.ContextSpec.{ContextSpec}
use Rattle.script_reader.specs.declared.script.Line.{Line}
use Rattle.script_reader.specs.declared.script.Script.{Script}

-- an image of these sides in pixels: three bytes for each
abbrev pub image_bytes : ℕ → ℕ → ℕ
image_bytes width height = 3 * (width * height)

-- the image of a context
abbrev pub context_bytes : ContextSpec → ℕ
context_bytes context = image_bytes context.width context.height

-- the image that is taken, if one is
abbrev pub act_bytes : Act → ℕ
act_bytes (Image name width height at) = image_bytes width height
act_bytes _ = 0

-- the image that a line takes, if it takes one
abbrev pub line_bytes : Line → ℕ
line_bytes line = act_bytes line.act

-- the image that comes of what a line says, if one does
abbrev pub said_bytes : Said → ℕ
said_bytes (Context context) = context_bytes context
said_bytes (Body line) = line_bytes line
said_bytes _ = 0

-- all images of a script
abbrev pub script_bytes : Script → ℕ
script_bytes script = sum_by context_bytes script.contexts + sum_by line_bytes script.lines
