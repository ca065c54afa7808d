-- The rails that commands ask for: those that words can name, which is no ring.
use Rattle.std.proofs.Common.{◌≡◌, ◌≢◌, ℕ, List, [], ◌∷◌, Bool, true, false, Option, Some, None, refl, ap, subst, length}
use Rattle.std.specs.Prelude.{◌&&◌, if◌then◌else◌, ◌==◌, codes, unwrap_or, option_and_then}
use Rattle.std.specs.Option.{option_map}
use Rattle.std.specs.Str.{bytes_eq}
use Rattle.batch_rail.specs.declared.maker.RailKind.{RailKind}
use Rattle.batch_rail.specs.declared.maker.RailKind.TheVariants.{Inline, Epoch, Ring}
use Rattle.replay_text.specs.declared.asked.Command.{Command}
use Rattle.replay_text.specs.declared.asked.Command.TheVariants.{Direct}
use Rattle.replay_text.specs.Words.{are_options, command_of, pairs_of, rail_asked, rail_in, rail_spelled, run_with, value_given}

-- whether a rail is one with a server
abbrev is_ring : RailKind → Bool
is_ring Inline = false
is_ring Epoch = false
is_ring Ring = true

-- whether there is a rail, and it is one with a server
abbrev ring_in : Option RailKind → Bool
ring_in None = false
ring_in (Some rail) = is_ring rail

-- the two names
no_name_is_ring : (is_inline is_epoch : Bool) → is_ring (unwrap_or (if is_inline then Some Inline else (if is_epoch then Some Epoch else None)) Epoch) ≡ false
no_name_is_ring true is_epoch = refl
no_name_is_ring false true = refl
no_name_is_ring false false = refl

-- the default, or one of the two names
no_value_is_ring : (given : Option (List ℕ)) → is_ring (unwrap_or (option_and_then rail_spelled given) Epoch) ≡ false
unfolding rail_spelled
no_value_is_ring None = refl
no_value_is_ring (Some word) = no_name_is_ring (bytes_eq word (codes "inline")) (bytes_eq word (codes "epoch"))

no_option_is_ring : (options : List (List ℕ × List ℕ)) → is_ring (rail_asked options) ≡ false
unfolding rail_asked
no_option_is_ring options = no_value_is_ring (value_given (codes "--rail") options)

-- one of the two commands
no_command_is_ring : (is_run is_direct : Bool) (run : Command) → is_ring (rail_in run) ≡ false → ring_in (option_map rail_in (if is_run then Some run else (if is_direct then Some Direct else None))) ≡ false
no_command_is_ring true is_direct run other = other
no_command_is_ring false true run other = refl
no_command_is_ring false false run other = refl

no_words_are_ring : (words : List (List ℕ)) → ring_in (option_map rail_in (command_of words)) ≡ false
no_words_are_ring [] = refl
no_words_are_ring (word ∷ words) = no_command_is_ring (bytes_eq word (codes "run") && are_options words) (bytes_eq word (codes "direct") && (length words == 0)) (run_with (pairs_of words)) (no_option_is_ring (pairs_of words))

-- no command that words spell asks for a rail with a server
pub no_words_ask_for_a_ring : (words : List (List ℕ)) → option_map rail_in (command_of words) ≢ Some Ring
no_words_ask_for_a_ring words is = let other : true ≡ false = subst (λ o. ring_in o ≡ false) is (no_words_are_ring words) in cc

-- what rail_of tells of words is the rail of the command that they spell
pub asks_told : (words : List (List ℕ)) (told : RailKind) (asked : Command) → Some told ≡ option_map rail_in (command_of words) → command_of words ≡ Some asked → told ≡ rail_in asked
asks_told words told asked is spelled = let same : option_map rail_in (command_of words) ≡ Some (rail_in asked) = ap (option_map rail_in) spelled in cc

-- where rail_of tells none of words, they spell no command
pub asks_none : (words : List (List ℕ)) (asked : Command) → None ≡ option_map rail_in (command_of words) → command_of words ≡ Some asked → ⊥
asks_none words asked is spelled = let same : option_map rail_in (command_of words) ≡ Some (rail_in asked) = ap (option_map rail_in) spelled in cc
