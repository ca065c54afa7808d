use Rattle.std.proofs.Common.{◌∙◌, sym, arith}
use Rattle.batch_rail.proofs.Giving.{TakesFirst-empty, TakesFirst-stretch, batches_in-end}
use Rattle.batch_rail.proofs.batches.Batches.next.Goals as goal

pub returns-then-self-gt0-clause-next : goal.returns-then-self-gt0-clause-next
returns-then-self-gt0-clause-next c =
    let b = c.self.inside in
    rw (← c.self.view_is, c.split_at.ensures.front) (TakesFirst-empty b.slots.now b.empty b.stretches.now b.behind c.self.invariant c.if-self-gt0.true)

pub returns-in_err-stretch-clause-next : goal.returns-in_err-stretch-clause-next
returns-in_err-stretch-clause-next c =
    let b = c.self.inside in
    rw c.from_residual.ensures (sym c.self.view_is ∙ batches_in-end b.slots.now b.empty b.stretches.now b.behind (omega arith) c.in_err-stretch.ensures.cases)

pub returns-clause-next : goal.returns-clause-next
returns-clause-next c =
    let b = c.self.inside in
    rw (← c.self.view_is, c.split_at-2.ensures.front, c.split_at-2.ensures.back, c.first_empty-self-inside.ensures)
    (TakesFirst-stretch b.slots.now b.empty b.stretches.now b.behind c.self.invariant c.in_ok-stretch.stretch.now c.in_ok-stretch.others.now (omega arith) c.in_ok-stretch.ensures.cases.0)
