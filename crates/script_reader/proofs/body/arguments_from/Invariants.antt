-- the numbers so far and those that are left are all of them
use Rattle.std.proofs.Common.{◌≡◌, ◌+◌, length, drop}
use Rattle.script_reader.specs.Cutting.{words_of}
use Rattle.script_reader.specs.Judged.{arguments_of}
use Rattle.script_reader.proofs.Fronts.{behind}
use Rattle.script_reader.proofs.body.arguments_from.Given as goal

abbrev pub invariant-loop-kind : goal.invariant-loop-kind
invariant-loop-kind l = record {
  whole : behind l.numbers (arguments_of (drop l.kind-index l.kinds) (words_of l.rest)) ≡ arguments_of l.kinds (words_of l.text);
  many : length (words_of l.text) ≡ l.kind-index + length (words_of l.rest);
  count : length l.numbers ≡ l.kind-index;
}
