use Rattle.batch_pack.proofs.SegmentLemmas.{AreReadTo}
use Rattle.batch_pack.proofs.decoder.segments_in.Given as goal

abbrev pub invariant-loop-at : goal.invariant-loop-at
invariant-loop-at l = AreReadTo l._at l.slots l.rest
