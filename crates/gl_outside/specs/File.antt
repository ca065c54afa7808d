-- A file on a shelf in memory.
use Rattle.std.specs.Prelude.{ℕ, List, string_bytes}
use Rattle.gl_outside.specs.declared.file.File.{File}

-- the pair of its name and its bytes; own
abbrev pub pair_of : File → List ℕ × List ℕ
pair_of file = (string_bytes file.name, file.bytes.items)
