use Rattle.std.proofs.Common.{ℕ, List, ◌+◌, ◌-◌, ◌∷◌, ap, sym, subst, ◌∙◌, arith}
use Rattle.gl_memory.specs.Segment.{Segment, byte_at}
use Rattle.gl_memory.proofs.Bytes.{byte_at-nil, byte_at-first, byte_at-others}
use Rattle.batch_pack.specs.Decoding.{segments_at}
use Rattle.batch_pack.specs.Holding.{BeginWith}
use Rattle.batch_pack.proofs.SegmentLemmas.{first_is, first_begins, segments_at-first, BeginWith-others, segments_at-none}
use Rattle.batch_pack.proofs.segments.byte_in_slots.Goals as goal

pub loop-number-init : goal.loop-number-init
loop-number-init c =
    let slots = c.args.slots.now in
    record {
      left = subst (λ (n : ℕ). BeginWith n slots) (omega arith) c.requires;
      same = ap (λ (n : ℕ). byte_at (segments_at n slots) c.args.at) (omega arith);
    }

pub first_segment-segment-requires-clause-segment : goal.first_segment-segment-requires-clause-segment
first_segment-segment-requires-clause-segment c =
    let number = c.loop-number._number in
    first_is (c.args.count - number) (c.args.count - (number + 1)) (omega arith) c.loop-number.rest.now c.loop-number.invariant.left

pub first_segment-segment-requires-clause-begins : goal.first_segment-segment-requires-clause-begins
first_segment-segment-requires-clause-begins c =
    let number = c.loop-number._number in
    first_begins (c.args.count - number) (c.args.count - (number + 1)) (omega arith) c.loop-number.rest.now c.loop-number.invariant.left

pub returns-in-Some : goal.returns-in-Some
returns-in-Some c =
    let number = c.loop-number._number in
    let rest = c.loop-number.rest.now in
    let first = c.first_segment-segment.result.0 in
    let behind = c.first_segment-segment.result.1.now in
    let others = segments_at (c.args.count - (number + 1)) behind in
    let first_of_all = segments_at-first (c.args.count - number) (c.args.count - (number + 1)) (omega arith) rest c.loop-number.invariant.left behind c.first_segment-segment.ensures.behind in
    sym (byte_at-first first others c.args.at c.in-Some.byte (sym c.byte.ensures ∙ c.in-Some.is))
    ∙ ap (λ (segment : Segment). byte_at (segment ∷ others) c.args.at) c.first_segment-segment.ensures.segment
    ∙ sym (ap (λ (list : List Segment). byte_at list c.args.at) first_of_all)
    ∙ c.loop-number.invariant.same

pub loop-number-preserved : goal.loop-number-preserved
loop-number-preserved c =
    let number = c.loop-number._number in
    let rest = c.loop-number.rest.now in
    let first = c.first_segment-segment.result.0 in
    let behind = c.first_segment-segment.result.1.now in
    let others = segments_at (c.args.count - (number + 1)) behind in
    let first_of_all = segments_at-first (c.args.count - number) (c.args.count - (number + 1)) (omega arith) rest c.loop-number.invariant.left behind c.first_segment-segment.ensures.behind in
    record {
      left = BeginWith-others (c.args.count - number) (c.args.count - (number + 1)) (omega arith) rest c.loop-number.invariant.left behind c.first_segment-segment.ensures.behind;
      same =
          sym (byte_at-others first others c.args.at (sym c.byte.ensures ∙ c.in_default.is))
          ∙ ap (λ (segment : Segment). byte_at (segment ∷ others) c.args.at) c.first_segment-segment.ensures.segment
          ∙ sym (ap (λ (list : List Segment). byte_at list c.args.at) first_of_all)
          ∙ c.loop-number.invariant.same;
    }

pub returns : goal.returns
returns c =
    let rest = c.loop-number.rest.now in
    let none = segments_at-none (c.args.count - c.loop-number._number) rest (omega arith) in
    sym (byte_at-nil c.args.at) ∙ sym (ap (λ (list : List Segment). byte_at list c.args.at) none) ∙ c.loop-number.invariant.same
