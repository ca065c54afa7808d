use Rattle.std.proofs.Common.{◌≡◌, length}
use Rattle.low_tests.proofs.replies.numbers_reply.Given as goal

abbrev pub invariant-loop-number : goal.invariant-loop-number
invariant-loop-number l = record {
  count : length l.list.items ≡ l.number-index;
  room : l.list.room ≡ length l.numbers;
}
