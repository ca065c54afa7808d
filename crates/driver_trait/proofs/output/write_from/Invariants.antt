use Rattle.std.proofs.Common.{◌≡◌, ◌<◌, ◌^◌, drop}
use Rattle.std.specs.List.{flat_map}
use Rattle.gl_memory.specs.ClientMemory.{written}
use Rattle.driver_trait.specs.Output.{number_bytes}
use Rattle.driver_trait.proofs.output.write_from.Given as goal

abbrev pub invariant-loop-number : goal.invariant-loop-number
invariant-loop-number l = record {
  same : written l.memory l.at (flat_map number_bytes (drop l.number-index l.numbers)) ≡ written l.fn.memory l.fn.place (flat_map number_bytes l.fn.numbers);
  low : l.at < 2 ^ 33;
}
