-- What is kept of the lines that were judged, and what a further line does to it. Not what a line says: `Judged.antt` has that.
use Rattle.std.specs.Prelude.{◌≡◌, ℕ, ◌+◌, ◌||◌, List, [], ◌∷◌, ◌++◌, Result, Ok, Err, if◌then◌else◌}
use Rattle.script_reader.specs.ImageBytes.{said_bytes}
use Rattle.script_reader.specs.Judged.{judged_within}
use Rattle.script_reader.specs.UploadBytes.{said_uploads}
use Rattle.script_reader.specs.Grammar.{before_of, contexts_in, lines_said, numbered, says_something, is_context, is_body, is_end}
use Rattle.script_reader.specs.declared.before.Before.{Before}
use Rattle.script_reader.specs.declared.before.Said.{Said}
use Rattle.script_reader.specs.declared.heard.Heard.{Heard}
use Rattle.script_reader.specs.declared.error.ScriptError.{ScriptError}
use Rattle.script_reader.specs.declared.error.ReadRefusal.{ReadRefusal}
use Rattle.script_reader.specs.declared.error.ReadRefusal.TheVariants.{Bad, NoMemory}
use Rattle.script_reader.specs.declared.script.Script.{Script}

-- what is kept is what these lines have said
pub record IsHeard (heard : Heard) (saids : List Said) : Type 0 where
  pub same_contexts : heard.contexts ≡ contexts_in saids
  pub same_lines : heard.lines ≡ lines_said saids
  pub same_before : heard.before ≡ before_of saids

-- what the tests ask of the lines before, when one more has said this
abbrev pub after : Before → Said → Before
after before said = record {
  lines = before.lines + 1;
  contexts = before.contexts + (if is_context said then 1 else 0);
  image_bytes = before.image_bytes + said_bytes said;
  upload_bytes = before.upload_bytes + said_uploads said;
  begun = before.begun || says_something said;
  bodied = before.bodied || is_body said;
  ended = before.ended || is_end said;
}

-- the line says something, and is kept behind the others
abbrev pub HearsLine : Heard → Heard → ℕ → List ℕ → Type 0
HearsLine old new at line = (saids : List Said) → IsHeard old saids → (said : Said) × (judged_within at (before_of saids) line ≡ Ok said) × IsHeard new (saids ++ said ∷ [])

-- the refusal is the one that was judged, or for want of memory
abbrev pub RefusesAs : {A : Type 0} → Result A ScriptError → ReadRefusal → Type 0
RefusesAs judged (Bad error) = judged ≡ Err error
RefusesAs judged NoMemory = Unit {0}

-- the line is refused as it is judged, or for want of memory
abbrev pub RefusesLine : Heard → ℕ → List ℕ → ReadRefusal → Type 0
RefusesLine old at line refusal = (saids : List Said) → IsHeard old saids → RefusesAs (numbered saids (judged_within at (before_of saids) line)) refusal

-- a reader gives what was judged, or refuses for want of memory
abbrev pub Reads : Result Script ScriptError → Result Script ReadRefusal → Type 0
Reads judged (Ok script) = judged ≡ Ok script
Reads judged (Err refusal) = RefusesAs judged refusal
