-- the numbers so far are spelled behind the bytes that were there
use Rattle.std.proofs.Common.{◌≡◌, ◌++◌, take}
use Rattle.replay_text.specs.Text.{integers_text}
use Rattle.replay_text.proofs.text.write_integers.Given as goal

abbrev pub invariant-loop-number : goal.invariant-loop-number
invariant-loop-number l = l.bytes.items ≡ l.fn.bytes.items ++ integers_text (take l.number-index l.numbers)
