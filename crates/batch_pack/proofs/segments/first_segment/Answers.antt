use Rattle.std.proofs.Common.{ℕ, List, ◌++◌, slice_index, ap, sym, ◌∙◌, arith}
use Rattle.gl_memory.specs.Segment.{Segment}
use Rattle.gl_memory.proofs.SlotBytes.{lent-drop}
use Rattle.batch_pack.specs.Spelling.{segment_spelling}
use Rattle.batch_pack.specs.Decoding.{segment_at}
use Rattle.batch_pack.proofs.SegmentLemmas.{long_enough, in_range, lies_in, fits_in, rest_is}
use Rattle.batch_pack.proofs.segments.first_segment.Goals as goal

pub bounds-slots-1 : goal.bounds-slots-1
bounds-slots-1 c = omega (arith, long_enough c.args.slots.now (c.requires.begins.0) (segment_at c.args.slots.now) c.requires.segment (c.requires.begins.1))

pub words_of-requires : goal.words_of-requires
words_of-requires c =
    let range = in_range c.args.slots.now (c.requires.begins.0) (segment_at c.args.slots.now) c.requires.segment (c.requires.begins.1) in
    record { bytes = omega (arith, range.1) }

pub split_at-requires : goal.split_at-requires
split_at-requires c = fits_in c.args.slots.now (c.requires.begins.0) (segment_at c.args.slots.now) c.requires.segment (c.requires.begins.1) c.words_of.result c.words_of.ensures.count

pub bounds-slots-0 : goal.bounds-slots-0
bounds-slots-0 c = omega (arith, long_enough c.args.slots.now (c.requires.begins.0) (segment_at c.args.slots.now) c.requires.segment (c.requires.begins.1))

pub new-requires : goal.new-requires
new-requires c = record { bytes = lies_in c.args.slots.now (c.requires.begins.0) (segment_at c.args.slots.now) c.requires.segment (c.requires.begins.1) }

pub returns-clause-segment : goal.returns-clause-segment
unfolding segment_at
returns-clause-segment c =
    let slots = c.args.slots.now in
    c.new.ensures
    ∙ ap (λ (bytes : List ℕ). let one : Segment = record { start = slice_index slots 0; bytes = bytes } in one)
    (sym (lent-drop slots 2 0 (slice_index slots 1) (long_enough c.args.slots.now (c.requires.begins.0) (segment_at c.args.slots.now) c.requires.segment (c.requires.begins.1))))

pub returns-clause-behind : goal.returns-clause-behind
returns-clause-behind c =
    let behind = c.split_at.ensures.back ∙ rest_is c.args.slots.now (c.requires.begins.0) (segment_at c.args.slots.now) c.requires.segment (c.requires.begins.1) c.words_of.result c.words_of.ensures.count in
    c.requires.begins.1 ∙ ap (λ (s : List ℕ). segment_spelling (segment_at c.args.slots.now) ++ s) (sym behind)
