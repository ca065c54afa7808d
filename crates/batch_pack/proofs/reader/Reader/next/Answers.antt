use Rattle.std.proofs.Common.{◌∙◌, sym}
use Rattle.batch_pack.specs.Packed.{spelled_by}
use Rattle.batch_pack.proofs.Parsing.{calls_in-at_end, AreReadable-rest, calls_in-first}
use Rattle.batch_pack.proofs.reader.Reader.next.Goals as goal

pub returns-in_err-packed-clause-next : goal.returns-in_err-packed-clause-next
returns-in_err-packed-clause-next c =
    let none = calls_in-at_end c.self.inside.slots.now c.self.invariant (λ call more has begins. absurd (let e = c.in_err-packed.ensures.only call more has begins in cc)) in
    rw c.from_residual.ensures (sym c.self.view_is ∙ none)

pub invariant_of-self : goal.invariant_of-self
invariant_of-self c =
    let found = c.in_ok-packed.ensures.found in
    AreReadable-rest c.self.inside.slots.now c.in_ok-packed.left.now (spelled_by c.in_ok-packed.packed) c.self.invariant (found.0) (found.1)

pub returns-clause-next : goal.returns-clause-next
returns-clause-next c =
    let found = c.in_ok-packed.ensures.found in
    sym c.self.view_is
    ∙ calls_in-first c.self.inside.slots.now c.in_ok-packed.left.now (spelled_by c.in_ok-packed.packed) c.self.invariant (found.0) (found.1)
