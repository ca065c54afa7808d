use Rattle.std.proofs.Common.{ℕ, List, ◌≤◌, vec_capacity, ◌∙◌, sym, ap, subst, arith}
use Rattle.batch_pack.specs.Spelling.{Spelled}
use Rattle.batch_pack.specs.Batch.{BatchView, empty_batch}
use Rattle.batch_pack.specs.Decoding.{calls_in}
use Rattle.batch_pack.specs.Holding.{IsHolding}
use Rattle.batch_pack.proofs.Packings.{calls_in-nil, IsHolding-nil}
use Rattle.batch_pack.proofs.batch.Batch.clear.Goals as goal

pub invariant_of-self : goal.invariant_of-self
invariant_of-self c =
    let room : c.self.inside.size ≤ vec_capacity c.clear.new.self = omega (arith, c.self.invariant.has_room, c.clear.ensures.capacity) in
    subst (λ (s : List ℕ). IsHolding s (vec_capacity c.clear.new.self) c.self.inside.size) (sym c.clear.ensures.items)
    (IsHolding-nil (vec_capacity c.clear.new.self) c.self.inside.size c.self.invariant.of_size room)

pub returns : goal.returns
returns c =
    ap (λ (s : List ℕ). let p : BatchView = record { size = c.self.inside.size; calls = calls_in s } in p) c.clear.ensures.items
    ∙ ap (λ (cs : List Spelled). let p : BatchView = record { size = c.self.inside.size; calls = cs } in p) calls_in-nil
    ∙ ap (λ (p : BatchView). empty_batch p.size) c.self.view_is
