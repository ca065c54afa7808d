-- the number that the digits so far spell
use Rattle.std.proofs.Common.{◌≡◌, ◌<◌, ◌^◌, true, take}
use Rattle.std.specs.List.{list_all}
use Rattle.std.specs.Char.{is_ascii_digit}
use Rattle.script_reader.specs.Number.{decimal_value}
use Rattle.script_reader.proofs.number.decimal_number.Given as goal

abbrev pub invariant-loop-digit : goal.invariant-loop-digit
invariant-loop-digit l = record {
  value : l.number ≡ decimal_value (take l.digit-index l.word);
  small : l.number < 10 ^ l.digit-index;
  digits : list_all is_ascii_digit (take l.digit-index l.word) ≡ true;
}
