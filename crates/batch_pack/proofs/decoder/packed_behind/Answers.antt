use Rattle.std.proofs.Common.{◌≡◌, ℕ, List, ◌++◌, map, length, drop, ap, sym, ◌∙◌, arith}
use Rattle.std.specs.List.{flat_map}
use Rattle.gl_words.specs.Call.{arguments}
use Rattle.gl_words.specs.declared.call.Call.{Call}
use Rattle.gl_memory.specs.Segment.{Segment}
use Rattle.gl_words.specs.Slots.{slot_of}
use Rattle.batch_pack.specs.Spelling.{segment_spelling}
use Rattle.batch_pack.specs.Decoding.{id_said, slots_said, segments_said}
use Rattle.batch_pack.proofs.SegmentLemmas.{same_segments}
use Rattle.batch_pack.proofs.Spellings.{drop-arguments}
use Rattle.batch_pack.proofs.Reading.{few_said, id_is, rest_is, segments_is, slots_is, slots-read, read-HasSpelling, read-spelled}
use Rattle.batch_pack.proofs.decoder.packed_behind.Goals as goal

pub returns-then-count-gt8-clause-only : goal.returns-then-count-gt8-clause-only
unfolding segments_said
returns-then-count-gt8-clause-only c = λ spelled more has begins.
    absurd (omega (arith, few_said c.args.header c.args.rest.now more spelled has begins))

pub returns-in-None-clause-only : goal.returns-in-None-clause-only
unfolding id_said
returns-in-None-clause-only c = λ spelled more has begins.
    let header = c.args.header in
    let rest = c.args.rest.now in
    absurd (c.in-None.ensures.only spelled.call (flat_map segment_spelling spelled.segments ++ more) has.in_range
    (id_is header rest more spelled has begins) (rest_is header rest more spelled has begins))

-- the slots behind the arguments of the call that was read
behind_arguments : (rest behind : List ℕ) (call read : Call) (more : List ℕ) → read ≡ call → rest ≡ map slot_of (arguments call) ++ more
    → rest ≡ map slot_of (arguments read) ++ behind → behind ≡ more
behind_arguments rest behind call read more same begins is =
    sym (drop-arguments read behind) ∙ ap (drop (length (arguments read))) (sym is ∙ begins)
    ∙ ap (λ (one : Call). drop (length (arguments one)) (map slot_of (arguments call) ++ more)) same ∙ drop-arguments call more

pub returns-in-None-segments_in-clause-only : goal.returns-in-None-segments_in-clause-only
unfolding id_said segments_said
returns-in-None-segments_in-clause-only c = λ spelled more has begins.
    let header = c.args.header in
    let rest = c.args.rest.now in
    let behind = flat_map segment_spelling spelled.segments ++ more in
    let same = c.in-Some.ensures.only spelled.call behind has.in_range (id_is header rest more spelled has begins) (rest_is header rest more spelled has begins) in
    c.in-None-segments_in.ensures.only spelled.segments more has.segments (segments_is header rest more spelled has begins)
    (behind_arguments rest c.in-Some.read.1.now spelled.call (c.in-Some.read.0) behind same (rest_is header rest more spelled has begins) (c.in-Some.ensures.found.2))

pub returns-then-rest-left-clause-only : goal.returns-then-rest-left-clause-only
unfolding id_said segments_said slots_said
returns-then-rest-left-clause-only c = λ spelled more has begins.
    let header = c.args.header in
    let rest = c.args.rest.now in
    let left = c.in-Some-segments_in.read.1.now in
    let behind = flat_map segment_spelling spelled.segments ++ more in
    let same = c.in-Some.ensures.only spelled.call behind has.in_range (id_is header rest more spelled has begins) (rest_is header rest more spelled has begins) in
    let split = behind_arguments rest c.in-Some.read.1.now spelled.call (c.in-Some.read.0) behind same (rest_is header rest more spelled has begins) (c.in-Some.ensures.found.2) in
    let read = c.in-Some-segments_in.ensures.found in
    let same_read = same_segments (c.in-Some-segments_in.read.0) spelled.segments left more (read.0) has.segments (read.1 ∙ sym (segments_is header rest more spelled has begins)) (sym (read.2) ∙ split) in
    let next : behind ≡ flat_map segment_spelling spelled.segments ++ left = sym split ∙ read.2 ∙ ap (λ (segments : List Segment). flat_map segment_spelling segments ++ left) same_read in
    absurd (c.if-rest-left.true (slots-read header rest behind left spelled.call spelled.segments (rest_is header rest more spelled has begins) next ∙ sym (slots_is header rest more spelled has begins)))

pub returns-clause-found : goal.returns-clause-found
unfolding id_said segments_said slots_said
returns-clause-found c =
    let header = c.args.header in
    let rest = c.args.rest.now in
    let left = c.in-Some-segments_in.read.1.now in
    let found = c.in-Some.ensures.found in
    let read = c.in-Some-segments_in.ensures.found in
    let call = c.in-Some.read.0 in
    let behind = c.in-Some.read.1.now in
    let segments = c.in-Some-segments_in.read.0 in (
      read-HasSpelling header rest behind left call segments (found.0) (found.1) (found.2) (read.0) (read.1) (read.2) c.if-count-gt8.false c.if-rest-left.false,
      read-spelled header rest behind left call segments (found.0) (found.1) (found.2) (read.0) (read.1) (read.2) c.if-count-gt8.false c.if-rest-left.false,
    )
