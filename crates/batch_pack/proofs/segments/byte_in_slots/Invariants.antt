use Rattle.std.proofs.Common.{◌≡◌, ◌-◌}
use Rattle.gl_memory.specs.Segment.{byte_at}
use Rattle.batch_pack.specs.Decoding.{segments_at}
use Rattle.batch_pack.specs.Holding.{BeginWith}
use Rattle.batch_pack.proofs.segments.byte_in_slots.Given as goal

abbrev pub invariant-loop-number : goal.invariant-loop-number
invariant-loop-number l = record {
  left : BeginWith (l.count - l._number) l.rest;
  same : byte_at (segments_at (l.count - l._number) l.rest) l.at ≡ byte_at (segments_at l.count l.slots) l.at;
}
