use Rattle.std.proofs.Common.{◌≡◌, length}
use Rattle.low_tests.proofs.replies.bytes_reply.Given as goal

abbrev pub invariant-loop-byte : goal.invariant-loop-byte
invariant-loop-byte l = record {
  count : length l.list.items ≡ l.byte-index;
  room : l.list.room ≡ length l.bytes;
}
