use Rattle.std.proofs.Common.{List, length, ap, sym, ◌∙◌}
use Rattle.gl_memory.specs.Segment.{Segment}
use Rattle.batch_pack.proofs.SegmentLemmas.{length-segments_at}
use Rattle.batch_pack.proofs.segments.Segments.len.Goals as goal

pub returns-clause-len : goal.returns-clause-len
returns-clause-len c =
    sym (length-segments_at c.self.inside.count c.self.inside.slots.now) ∙ ap (λ (list : List Segment). length list) c.self.view_is
