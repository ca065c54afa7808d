use Rattle.std.proofs.Common.{◌≡◌, ◌+◌, ◌++◌, length, replicate}
use Rattle.soft_driver.proofs.reading.add_zeros.Given as goal

-- the zeros so far
abbrev pub invariant-loop : goal.invariant-loop
invariant-loop l = record {
  added : l.bytes ≡ record { items = l.fn.bytes.items ++ replicate l.counter 0; room = l.fn.bytes.room };
  long : length l.bytes.items ≡ length l.fn.bytes.items + l.counter;
}
