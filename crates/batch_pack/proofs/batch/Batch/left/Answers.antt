use Rattle.std.proofs.Common.{vec_capacity, ◌∙◌, sym, ap, arith}
use Rattle.batch_pack.specs.Batch.{slots_left}
use Rattle.batch_pack.proofs.Packings.{slots_left-is}
use Rattle.batch_pack.proofs.batch.Batch.left.Goals as goal

pub returns : goal.returns
returns c =
    let v = c.self.inside.slots in
    let left = ap slots_left (sym c.self.view_is) ∙ slots_left-is v.items (vec_capacity v) c.self.inside.size c.self.invariant in
    omega (arith, left, v.ok, c.len.ensures)
