-- The words of the command line, without the program's name; own.
use Rattle.std.specs.Prelude.{ℕ, ◌&&◌, Bool, true, false, if◌then◌else◌, nat_le, ◌==◌, List, [], ◌∷◌, length, codes, map, string_bytes, String, Option, Some, None, is_some, is_none, unwrap_or, option_and_then}
use Rattle.std.specs.List.{list_all}
use Rattle.std.specs.Str.{bytes_eq}
use Rattle.batch_pack.specs.Batch.{IsBatchSize}
use Rattle.batch_rail.specs.declared.maker.RailKind.{RailKind}
use Rattle.batch_rail.specs.declared.maker.RailKind.TheVariants.{Inline, Epoch}
use Rattle.batch_rail.specs.Maker.{IsRingLength}
use Rattle.script_reader.specs.Number.{decimal_of}
use Rattle.replay_text.specs.declared.asked.Command.{Command}
use Rattle.replay_text.specs.declared.asked.Command.TheVariants.{Run, Direct}

-- words as texts
abbrev pub texts_of : {Z : Type 0} → List (String Z) → List (List ℕ)
texts_of words = map (λ word. string_bytes word) words

-- words two by two: a name, and the value behind it; own
abbrev pub pairs_of : List (List ℕ) → List (List ℕ × List ℕ)
pairs_of (name ∷ value ∷ words) = (name, value) ∷ pairs_of words
pairs_of words = []

-- there is a value behind each name; own
abbrev pub come_in_pairs : List (List ℕ) → Bool
come_in_pairs [] = true
come_in_pairs (name ∷ []) = false
come_in_pairs (name ∷ value ∷ words) = come_in_pairs words

-- the number that a word of 1 to 10 decimal digits spells, where it is one from low to high; own
unfoldable pub decimal_within : ℕ → ℕ → List ℕ → Option ℕ
decimal_within low high word = option_and_then (λ n. if nat_le low n && nat_le n high then Some n else None) (decimal_of word)

-- the values of `--batch`: 16 to 8192 slots; own
unfoldable pub batch_spelled : List ℕ → Option ℕ
batch_spelled word = decimal_within 16 8192 word

-- the values of `--ring`: 1 to 64 batches; own
unfoldable pub ring_spelled : List ℕ → Option ℕ
ring_spelled word = decimal_within 1 64 word

-- the values of `--rail`: the names of the rails that can be asked for; own
unfoldable pub rail_spelled : List ℕ → Option RailKind
rail_spelled word =
    if bytes_eq word (codes "inline") then Some Inline else (
    if bytes_eq word (codes "epoch") then Some Epoch else None)

-- the name is an option's, and the value one of its values; own
unfoldable pub is_option : List ℕ × List ℕ → Bool
is_option (name, value) =
    if bytes_eq name (codes "--batch") then is_some (batch_spelled value) else (
    if bytes_eq name (codes "--ring") then is_some (ring_spelled value) else (
    bytes_eq name (codes "--rail") && is_some (rail_spelled value)))

-- the value of the first pair with this name; own
abbrev pub value_given : List ℕ → List (List ℕ × List ℕ) → Option (List ℕ)
value_given name [] = None
value_given name ((other, value) ∷ pairs) = if bytes_eq other name then Some value else value_given name pairs

-- no name stands twice; own
abbrev pub stand_once : List (List ℕ × List ℕ) → Bool
stand_once [] = true
stand_once ((name, value) ∷ pairs) = is_none (value_given name pairs) && stand_once pairs

-- words are options, each with one of its values, and none twice; own
abbrev pub are_options : List (List ℕ) → Bool
are_options words = list_all is_option (pairs_of words) && (stand_once (pairs_of words) && come_in_pairs words)

-- the slots of a batch that options ask for, or the default; own
unfoldable pub batch_of : List (List ℕ × List ℕ) → ℕ
batch_of options = unwrap_or (option_and_then batch_spelled (value_given (codes "--batch") options)) 1024

-- the batches of a ring that options ask for, or the default; own
unfoldable pub ring_of : List (List ℕ × List ℕ) → ℕ
ring_of options = unwrap_or (option_and_then ring_spelled (value_given (codes "--ring") options)) 8

-- the rail that options ask for, or the default; own
unfoldable pub rail_asked : List (List ℕ × List ℕ) → RailKind
rail_asked options = unwrap_or (option_and_then rail_spelled (value_given (codes "--rail") options)) Epoch

-- the command `run` with what these options ask for; own
abbrev pub run_with : List (List ℕ × List ℕ) → Command
run_with options = Run (batch_of options) (ring_of options) (rail_asked options)

-- the command that words spell, where they spell one: `run` and options, or `direct` alone; own
abbrev pub command_of : List (List ℕ) → Option Command
command_of [] = None
command_of (word ∷ words) =
    if bytes_eq word (codes "run") && are_options words then Some (run_with (pairs_of words)) else (
    if bytes_eq word (codes "direct") && (length words == 0) then Some Direct else None)

-- the rail of a command, and the one without threads for direct calls, which use none; own
abbrev pub rail_in : Command → RailKind
rail_in (Run batch ring rail) = rail
rail_in Direct = Inline

-- the numbers of a command are within their limits; own
abbrev pub IsWithinLimits : Command → Type 0
IsWithinLimits (Run batch ring rail) = IsBatchSize batch × IsRingLength ring
IsWithinLimits Direct = Unit {0}
