-- the number that the digits so far spell
use Rattle.std.proofs.Common.{◌≡◌, ◌<◌, ◌^◌, take}
use Rattle.script_reader.specs.Number.{hexadecimal_value}
use Rattle.script_reader.proofs.number.hexadecimal_number.Given as goal

abbrev pub invariant-loop-digit : goal.invariant-loop-digit
invariant-loop-digit l = (l.number ≡ hexadecimal_value (take l.digit-index l.word)) × (l.number < 16 ^ l.digit-index)
