use Rattle.std.proofs.Common.{◌≡◌, ◌*◌, length}
use Rattle.soft_driver.specs.Pixels.{bytes_read}
use Rattle.soft_driver.proofs.reading.read.Given as goal

-- the rows so far
abbrev pub invariant-loop-row : goal.invariant-loop-row
invariant-loop-row l = record {
  read : l.bytes ≡ record { items = bytes_read l.fn.frame l.fn.x l.fn.y l.fn.width l.row; room = l.fn.height * (4 * l.fn.width) };
  long : length l.bytes.items ≡ l.row * (4 * l.fn.width);
}
