-- How many bytes the calls of a script declare to upload, whether or not they come to it; own.
use Rattle.std.specs.Prelude.{ℕ, ◌*◌, ℤ, nat_abs, ◌&&◌, if◌then◌else◌}
use Rattle.std.specs.List.{sum_by}
use Rattle.gl_words.specs.declared.call.Call.{Call}
use Rattle.gl_words.specs.declared.call.Call.TheVariants.{BufferData, BufferSubData, TexImage2D, TexSubImage2D}
use Rattle.script_reader.specs.Number.{is_within}
use Rattle.script_reader.specs.declared.before.Said.{Said}
use Rattle.script_reader.specs.declared.before.Said.TheVariants.{Body}
use Rattle.script_reader.specs.declared.script.Act.{Act}
use Rattle.script_reader.specs.declared.script.Act.TheVariants.{Gl}
use Rattle.script_reader.specs.declared.script.Line.{Line}
use Rattle.script_reader.specs.declared.script.Script.{Script}

-- a size of bytes for a buffer: none where it is below zero, or larger than all that objects hold
abbrev pub size_uploads : ℤ → ℕ
size_uploads size = if is_within 0 67108864 size then nat_abs size else 0

-- an image of these sides in texels: four bytes for each, whatever its format, and none where a side is outside 1 to 256
abbrev pub sides_uploads : ℤ → ℤ → ℕ
sides_uploads width height = if is_within 1 256 width && is_within 1 256 height then 4 * (nat_abs width * nat_abs height) else 0

-- the bytes for a buffer or an image, if the call brings any
abbrev pub call_uploads : Call → ℕ
call_uploads (BufferData target size source usage) = size_uploads size
call_uploads (BufferSubData target offset size source) = size_uploads size
call_uploads (TexImage2D target level internalformat width height border format kind pixels) = sides_uploads width height
call_uploads (TexSubImage2D target level xoffset yoffset width height format kind pixels) = sides_uploads width height
call_uploads _ = 0

-- those of the call that a line makes, if it makes one
abbrev pub act_uploads : Act → ℕ
act_uploads (Gl call) = call_uploads call
act_uploads _ = 0

-- those of a line that is carried out
abbrev pub line_uploads : Line → ℕ
line_uploads line = act_uploads line.act

-- those that come of what a line says
abbrev pub said_uploads : Said → ℕ
said_uploads (Body line) = line_uploads line
said_uploads _ = 0

-- all that a script declares
abbrev pub script_uploads : Script → ℕ
script_uploads script = sum_by line_uploads script.lines
