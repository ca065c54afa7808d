-- the bytes so far and those that the digits left spell are all of them
use Rattle.std.proofs.Common.{◌≡◌, ◌++◌, length, true}
use Rattle.std.specs.Char.{is_ascii_hexdigit}
use Rattle.std.specs.List.{list_all}
use Rattle.script_reader.specs.Hex.{paired}
use Rattle.script_reader.proofs.hex.octets_from.Given as goal

abbrev pub invariant-loop-rest : goal.invariant-loop-rest
invariant-loop-rest l = record {
  whole : l.octets.items ++ paired l.rest ≡ paired l.digits;
  room : l.octets.room ≡ length (paired l.digits);
  digits : list_all is_ascii_hexdigit l.rest ≡ true;
}

abbrev pub decreases-loop-rest : goal.decreases-loop-rest
decreases-loop-rest l = length l.rest
