use Rattle.std.proofs.Common.{◌≡◌, ◌+◌, ◌≤◌, ◌++◌, length, take}
use Rattle.std.specs.List.{flat_map}
use Rattle.array_capture.proofs.Drawing.{part_of_array}
use Rattle.array_capture.proofs.draw.push_spans.Given as goal

abbrev pub invariant-loop-array : goal.invariant-loop-array
invariant-loop-array l = record {
  so_far : l.pieces ≡ l.fn.pieces ++ flat_map (part_of_array l.end l.least l.greatest) (take l.array-index l.arrays);
  few : length l.pieces ≤ length l.fn.pieces + l.array-index;
}
