use Rattle.std.proofs.Common.{◌≡◌, length, Ok, ap, arith}
use Rattle.std.proofs.lemmas.Bool.Decides.{nat_tests}
use Rattle.batch_pack.specs.Packed.{spelled_by}
use Rattle.batch_pack.proofs.Spellings.{calls_in-spelled}
use Rattle.batch_pack.proofs.Parsing.{less_left, reads_one_more, nothing_read, all_read, spelling_first, AreSpellings-rest, AreReadable-spellings}
use Rattle.batch_pack.proofs.reader.parse.Goals as goal

pub calls-init : goal.calls-init
calls-init c = nothing_read c.args.slots.now

pub calls-smaller : goal.calls-smaller
calls-smaller c =
    let found = c.in-Some.ensures.found in
    less_left c.calls.rest.now c.in-Some.left.now (spelled_by c.in-Some.field-0-0) (found.1)

pub calls-preserved : goal.calls-preserved
calls-preserved c =
    let found = c.in-Some.ensures.found in
    reads_one_more c.args.slots.now c.calls.rest.now c.in-Some.left.now (spelled_by c.in-Some.field-0-0) c.calls.invariant (found.0) (found.1)

pub returns-in-None-clause-only : goal.returns-in-None-clause-only
returns-in-None-clause-only c = λ calls have spelled.
    let some : length c.calls.rest.now ≡ 0 → ⊥ = grind (arith, nat_tests) in
    let rest = AreSpellings-rest c.args.slots.now c.calls.rest.now c.calls.invariant (calls, have, spelled) in
    absurd (spelling_first c.calls.rest.now rest some (λ call more has begins. let e = c.in-None.ensures.only call more has begins in absurd (cc)))

pub returns-in-None-clause-bad : goal.returns-in-None-clause-bad
returns-in-None-clause-bad c = λ _ all.
    let some : length c.calls.rest.now ≡ 0 → ⊥ = grind (arith, nat_tests) in
    let rest = AreSpellings-rest c.args.slots.now c.calls.rest.now c.calls.invariant all in
    spelling_first c.calls.rest.now rest some (λ call more has begins. let e = c.in-None.ensures.only call more has begins in absurd (cc))

pub invariant_of-result : goal.invariant_of-result
invariant_of-result c =
    let none : length c.calls.rest.now ≡ 0 = grind (arith, nat_tests) in
    AreReadable-spellings c.args.slots.now (all_read c.args.slots.now c.calls.rest.now none c.calls.invariant)

pub returns-clause-found : goal.returns-clause-found
returns-clause-found c =
    let none : length c.calls.rest.now ≡ 0 = grind (arith, nat_tests) in
    let readable = AreReadable-spellings c.args.slots.now (all_read c.args.slots.now c.calls.rest.now none c.calls.invariant) in
    (readable.have, readable.spelled)

pub returns-clause-only : goal.returns-clause-only
returns-clause-only c = λ calls have spelled. ap Ok (calls_in-spelled c.args.slots.now calls have spelled)
