-- The script that bytes spell, or the first faulty line with its fault; own. How a line is judged is told in `Judged.antt`.
use Rattle.std.specs.Prelude.{◌≡◌, ℕ, ◌+◌, Bool, true, false, List, [], ◌∷◌, ◌++◌, Result, Ok, Err, length, if◌then◌else◌, count_by, ◌⊎◌}
use Rattle.std.specs.List.{list_any, sum_by}
use Rattle.script_reader.specs.Cutting.{lines_of}
use Rattle.script_reader.specs.ImageBytes.{said_bytes}
use Rattle.script_reader.specs.Judged.{judged_within}
use Rattle.script_reader.specs.UploadBytes.{said_uploads}
use Rattle.script_reader.specs.declared.before.Before.{Before}
use Rattle.script_reader.specs.declared.before.Said.{Said}
use Rattle.script_reader.specs.declared.before.Said.TheVariants.{Nothing, Context, Body, End}
use Rattle.script_reader.specs.declared.error.ScriptFault.{ScriptFault}
use Rattle.script_reader.specs.declared.error.ScriptFault.TheVariants.{NoEnd}
use Rattle.script_reader.specs.declared.error.ScriptError.{ScriptError}
use Rattle.script_reader.specs.declared.error.ReadRefusal.{ReadRefusal}
use Rattle.script_reader.specs.declared.error.ReadRefusal.TheVariants.{NoMemory}
use Rattle.script_reader.specs.declared.script.ContextSpec.{ContextSpec}
use Rattle.script_reader.specs.declared.script.Line.{Line}
use Rattle.script_reader.specs.declared.script.Script.{Script}

-- a line that is neither blank nor a comment
abbrev pub says_something : Said → Bool
says_something Nothing = false
says_something _ = true

-- a context line
abbrev pub is_context : Said → Bool
is_context (Context context) = true
is_context _ = false

-- a body line
abbrev pub is_body : Said → Bool
is_body (Body line) = true
is_body _ = false

-- the line `end`
abbrev pub is_end : Said → Bool
is_end End = true
is_end _ = false

-- what the tests of a line ask of the lines before it
unfoldable pub before_of : List Said → Before
before_of saids = record { lines = length saids; contexts = count_by is_context saids; image_bytes = sum_by said_bytes saids; upload_bytes = sum_by said_uploads saids; begun = list_any says_something saids; bodied = list_any is_body saids; ended = list_any is_end saids }

-- what was judged of the line after these, with its number
abbrev pub numbered : {A : Type 0} → List Said → Result A ScriptFault → Result A ScriptError
numbered before (Ok value) = Ok value
numbered before (Err fault) = Err (record { line = length before + 1; fault = fault })

-- what comes next, if there was no error; else that error
abbrev pub and_then : {A B E : Type 0} → Result A E → (A → Result B E) → Result B E
and_then (Ok value) next = next value
and_then (Err error) next = Err error

-- what these lines say, of which the first begins after so many bytes, behind what the lines before them have said
unfoldable pub all_said : ℕ → List Said → List (List ℕ) → Result (List Said) ScriptError
all_said at before [] = if list_any is_end before then Ok before else numbered before (Err NoEnd)
all_said at before (line ∷ lines) =
    and_then (numbered before (judged_within at (before_of before) line)) (λ said. all_said (at + length line) (before ++ said ∷ []) lines)

-- the contexts that these sayings describe, in their order
abbrev pub contexts_in : List Said → List ContextSpec
contexts_in [] = []
contexts_in (Context context ∷ saids) = context ∷ contexts_in saids
contexts_in (_ ∷ saids) = contexts_in saids

-- the body lines among these sayings, in their order
abbrev pub lines_said : List Said → List Line
lines_said [] = []
lines_said (Body line ∷ saids) = line ∷ lines_said saids
lines_said (_ ∷ saids) = lines_said saids

-- the script that these sayings make
abbrev pub script_said : List Said → Result Script ScriptError
script_said saids = Ok (record { contexts = contexts_in saids; lines = lines_said saids })

-- the script that the bytes spell, or the first faulty line with its fault
unfoldable pub script_of : List ℕ → Result Script ScriptError
script_of bytes = and_then (all_said 0 [] (lines_of bytes)) script_said

-- a reader answers so, or refuses for want of memory
abbrev pub IsReading : Result Script ReadRefusal → Result Script ReadRefusal → Type 0
IsReading result answer = (result ≡ answer) ⊎ (result ≡ Err NoMemory)
