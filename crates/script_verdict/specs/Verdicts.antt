-- What a verdict says of bytes, its place, words and hints apart; own. What a script is stands in `Grammar.antt` of `script_reader`.
use Rattle.std.specs.Prelude.{◌≡◌, ℕ, List, Option, Some, None, Ok, Err}
use Rattle.script_reader.specs.Grammar.{script_of}
use Rattle.script_reader.specs.declared.error.ScriptError.{ScriptError}
use Rattle.script_reader.specs.declared.script.Script.{Script}
use Rattle.script_verdict.specs.declared.verdict.Verdict.{Verdict}
use Rattle.script_verdict.specs.declared.verdict.Verdict.TheVariants.{Accepted, Refused}

-- the line and the fault that a verdict tells, if it refuses; own
abbrev pub error_in : Verdict → Option ScriptError
error_in (Accepted lines contexts calls) = None
error_in (Refused refusal) = Some refusal.error

-- bytes are a script where no error is told, and else are refused with it; own
abbrev pub IsAnswer : List ℕ → Option ScriptError → Type 0
IsAnswer bytes None = (script : Script) × (script_of bytes ≡ Ok script)
IsAnswer bytes (Some error) = script_of bytes ≡ Err error
