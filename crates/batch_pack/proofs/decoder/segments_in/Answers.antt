use Rattle.std.proofs.Common.{◌≡◌, ◌+◌, ℕ, List, [], ◌∷◌, ◌++◌, length, drop, ap, sym, ◌∙◌, subst, arith}
use Rattle.std.specs.List.{flat_map, AllByRecursion}
use Rattle.std.proofs.lemmas.List.{length-append, length_push}
use Rattle.gl_memory.specs.Segment.{Segment}
use Rattle.batch_pack.specs.Spelling.{segment_spelling, IsSegment}
use Rattle.batch_pack.specs.Decoding.{segment_at}
use Rattle.batch_pack.proofs.SegmentLemmas.{AreReadTo, nothing_read, BeginWith-read, segments_at-read, length-segment_spelling, next_segment, segments-more, segments-push}
use Rattle.batch_pack.proofs.decoder.segments_in.Goals as goal

pub loop-at-init : goal.loop-at-init
loop-at-init c = nothing_read c.args.slots.now

pub split_at-requires : goal.split_at-requires
split_at-requires c =
    let found = c.in-Some.ensures.found in
    let first = segment_at c.loop-at.rest.now in
    let e = ap length (found.2) ∙ length-append (segment_spelling first) (drop c.in-Some.taken c.loop-at.rest.now) in
    omega (arith, found.1, length-segment_spelling first)

pub loop-at-preserved : goal.loop-at-preserved
loop-at-preserved c =
    let found = c.in-Some.ensures.found in
    let first = segment_at c.loop-at.rest.now in
    let before = c.loop-at.invariant in
    let read = before.0 in (
      read ++ first ∷ [],
      segments-push read first (before.1) (found.0),
      length_push read first ∙ ap (λ (n : ℕ). n + 1) (before.2),
      segments-more read first c.args.slots.now c.loop-at.rest.now (drop c.in-Some.taken c.loop-at.rest.now) (before.3) (found.2)
          ∙ ap (λ (s : List ℕ). flat_map segment_spelling (read ++ first ∷ []) ++ s) (sym c.split_at.ensures.back),
    )

pub returns-in-None-clause-only : goal.returns-in-None-clause-only
returns-in-None-clause-only c = λ segments more are many begins.
    let before = c.loop-at.invariant in
    next_segment (before.0) segments c.loop-at.rest.now more (before.1) are (omega (arith, before.2)) (sym (before.3) ∙ begins)
    (λ segment left is next. c.in-None.ensures.only segment left is next)

pub segments_from-requires : goal.segments_from-requires
segments_from-requires c =
    let read = subst (λ (n : ℕ). AreReadTo n c.args.slots.now c.loop-at.rest.now) (omega arith) c.loop-at.invariant in
    BeginWith-read c.args.count c.args.slots.now c.loop-at.rest.now c.requires.few read

pub returns-clause-found : goal.returns-clause-found
returns-clause-found c =
    let slots = c.args.slots.now in
    let rest = c.loop-at.rest.now in
    let count = c.args.count in
    let read = subst (λ (n : ℕ). AreReadTo n slots rest) (omega arith) c.loop-at.invariant in
    let same = c.segments_from.ensures ∙ segments_at-read count slots rest read in
    subst (λ (list : List Segment). AllByRecursion IsSegment list × (length list ≡ count) × (slots ≡ flat_map segment_spelling list ++ rest)) (sym same) (read.1, read.2, read.3)
