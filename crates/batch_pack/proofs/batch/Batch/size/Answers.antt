use Rattle.std.proofs.Common.{◌≤◌, vec_capacity, subst}
use Rattle.batch_pack.specs.Batch.{BatchView, IsBatchSize, slots_used}
use Rattle.batch_pack.proofs.Packings.{is_within}
use Rattle.batch_pack.proofs.batch.Batch.size.Goals as goal

pub returns-clause-bounds : goal.returns-clause-bounds
returns-clause-bounds c =
    subst (λ (p : BatchView). IsBatchSize p.size × (slots_used p.calls ≤ p.size)) c.self.view_is
    (c.self.invariant.of_size, is_within c.self.inside.slots.items (vec_capacity c.self.inside.slots) c.self.inside.size c.self.invariant)
