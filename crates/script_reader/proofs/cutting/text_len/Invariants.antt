-- only text was passed
use Rattle.std.proofs.Common.{◌≡◌, ℕ, ◌<◌, true, get_or}
use Rattle.script_reader.specs.Judged.{is_text_byte}
use Rattle.script_reader.proofs.cutting.text_len.Given as goal

abbrev pub invariant-loop-at : goal.invariant-loop-at
invariant-loop-at l = (k : ℕ) → k < l.at → is_text_byte (get_or l.bytes k 0) ≡ true
