use Rattle.std.proofs.Common.{◌≡◌, ◌<◌, take}
use Rattle.frame_loop.specs.Checksum.{checksum_of}
use Rattle.frame_loop.proofs.checksum.checksum_of.Given as goal

-- the checksum of the cells so far
abbrev pub invariant-loop-cell : goal.invariant-loop-cell
invariant-loop-cell l = record {
  sum : l.sum ≡ checksum_of (take l.cell-index l.cells);
  small : l.sum < 4294967291;
}
