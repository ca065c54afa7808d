use Rattle.std.proofs.Common.{vec_capacity, ◌∙◌, sym, ap}
use Rattle.batch_pack.specs.Batch.{BatchView, slots_used}
use Rattle.batch_pack.proofs.Packings.{slots_used-calls_in}
use Rattle.batch_pack.proofs.batch.Batch.used.Goals as goal

pub returns-clause-used : goal.returns-clause-used
returns-clause-used c =
    let v = c.self.inside.slots in
    c.len.ensures ∙ v.ok.0 ∙ sym (slots_used-calls_in v.items (vec_capacity v) c.self.inside.size c.self.invariant) ∙ ap (λ (p : BatchView). slots_used p.calls) c.self.view_is
