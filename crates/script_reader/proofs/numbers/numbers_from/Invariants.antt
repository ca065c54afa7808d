-- the numbers so far and those that are left are all of them
use Rattle.std.proofs.Common.{◌≡◌, ◌+◌, ◌≤◌, length}
use Rattle.script_reader.specs.Cutting.{words_of}
use Rattle.script_reader.specs.Judged.{numbers_of}
use Rattle.script_reader.proofs.Fronts.{behind}
use Rattle.script_reader.proofs.numbers.numbers_from.Given as goal

abbrev pub invariant-loop-word : goal.invariant-loop-word
invariant-loop-word l = record {
  whole : behind l.numbers (numbers_of (words_of l.rest)) ≡ numbers_of (words_of l.text);
  few : length l.numbers + length (words_of l.rest) ≤ 9;
}

abbrev pub decreases-loop-word : goal.decreases-loop-word
decreases-loop-word l = length l.rest
