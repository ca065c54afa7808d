use Rattle.std.proofs.Common.{◌≡◌, ◌+◌, ◌-◌, ◌*◌, ◌++◌, pos, length}
use Rattle.soft_driver.specs.Reading.{columns_read}
use Rattle.soft_driver.proofs.reading.read_columns.Given as goal

-- the columns so far
abbrev pub invariant-loop-at : goal.invariant-loop-at
invariant-loop-at l = record {
  read : l.bytes ≡ record { items = l.fn.bytes.items ++ columns_read l.fn.frame l.fn.x (pos l.fn.row) l.fn.columns.first (l.at - l.fn.columns.first); room = l.fn.bytes.room };
  long : length l.bytes.items ≡ length l.fn.bytes.items + 4 * (l.at - l.fn.columns.first);
}
