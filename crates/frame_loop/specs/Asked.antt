-- The words of the command line, without the program's name; own.
use Rattle.std.specs.Prelude.{ℕ, ◌&&◌, if◌then◌else◌, nat_le, List, [], ◌∷◌, codes, map, string_bytes, String, Option, Some, None, option_and_then}
use Rattle.std.specs.Str.{bytes_eq}
use Rattle.batch_rail.specs.declared.maker.RailKind.{RailKind}
use Rattle.batch_rail.specs.declared.maker.RailKind.TheVariants.{Inline, Epoch}
use Rattle.script_reader.specs.Number.{decimal_of}
use Rattle.frame_loop.specs.declared.asked.Asked.{Asked}

-- words as texts
abbrev pub texts_of : {Z : Type 0} → List (String Z) → List (List ℕ)
texts_of words = map (λ word. string_bytes word) words

-- the rail that a word names; own
unfoldable pub rail_named : List ℕ → Option RailKind
rail_named word = if bytes_eq word (codes "inline") then Some Inline else (if bytes_eq word (codes "epoch") then Some Epoch else None)

-- the number that a word of 1 to 10 decimal digits spells, where it is one from low to high; own
unfoldable pub decimal_within : ℕ → ℕ → List ℕ → Option ℕ
decimal_within low high word = option_and_then (λ n. if nat_le low n && nat_le n high then Some n else None) (decimal_of word)

-- what is asked for, where each part of it is told; own
abbrev pub all_asked : Option RailKind → Option ℕ → Option ℕ → Option ℕ → Option Asked
all_asked (Some rail) (Some frames) (Some work) (Some asks) = Some (record { rail = rail; frames = frames; work = work; asks = asks })
all_asked rail frames work asks = None

-- what these four words ask for: a rail, how many frames, how much work before each, and every how many an error is asked for; own
unfoldable pub asked_in : List ℕ → List ℕ → List ℕ → List ℕ → Option Asked
asked_in rail frames work asks = all_asked (rail_named rail) (decimal_within 1 1000000 frames) (decimal_within 0 1000000000 work) (decimal_within 0 1000000 asks)

-- what words ask for, if they do: four words, or three where no error is asked for; own
abbrev pub asked_of : List (List ℕ) → Option Asked
asked_of (rail ∷ frames ∷ work ∷ []) = asked_in rail frames work (codes "0")
asked_of (rail ∷ frames ∷ work ∷ asks ∷ []) = asked_in rail frames work asks
asked_of words = None
