-- the numbers so far are spelled
use Rattle.std.proofs.Common.{◌≡◌, string_bytes, take}
use Rattle.replay_text.specs.Text.{numbers_text}
use Rattle.replay_text.proofs.text.numbers_text.Given as goal

abbrev pub invariant-loop-number : goal.invariant-loop-number
invariant-loop-number l = string_bytes l.text ≡ numbers_text (take l.number-index l.numbers)
