use Rattle.std.proofs.Common.{ℕ, List, ◌≤◌, vec_capacity, ◌∙◌, sym, ap, subst}
use Rattle.batch_pack.specs.Spelling.{Spelled}
use Rattle.batch_pack.specs.Batch.{BatchView}
use Rattle.batch_pack.specs.Decoding.{calls_in}
use Rattle.batch_pack.specs.Holding.{IsHolding}
use Rattle.batch_pack.proofs.Packings.{calls_in-nil, IsHolding-nil}
use Rattle.batch_pack.proofs.batch.Batch.new.Goals as goal

pub invariant_of-result : goal.invariant_of-result
invariant_of-result c =
    let v = c.in_ok-with_capacity.field-0 in
    let room : c.args.slots ≤ vec_capacity v = c.in_ok-with_capacity.ensures.capacity in
    subst (λ (s : List ℕ). IsHolding s (vec_capacity v) c.args.slots) (sym c.in_ok-with_capacity.ensures.items)
    (IsHolding-nil (vec_capacity v) c.args.slots c.requires.size room)

pub returns : goal.returns
returns c = record {
  ok =
      ap (λ (s : List ℕ). let p : BatchView = record { size = c.args.slots; calls = calls_in s } in p) c.in_ok-with_capacity.ensures.items
      ∙ ap (λ (cs : List Spelled). let p : BatchView = record { size = c.args.slots; calls = cs } in p) calls_in-nil;
}
