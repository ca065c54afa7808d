-- the blanks that were passed change no word
use Rattle.std.proofs.Common.{◌≡◌, drop}
use Rattle.script_reader.specs.Cutting.{words_of}
use Rattle.script_reader.proofs.words.blanks_len.Given as goal

abbrev pub invariant-loop-at : goal.invariant-loop-at
invariant-loop-at l = words_of l.text ≡ words_of (drop l.at l.text)
