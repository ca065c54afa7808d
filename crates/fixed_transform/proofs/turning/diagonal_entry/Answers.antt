use Rattle.std.proofs.Common.{◌≡◌, ℤ, ◌+ℤ◌, ap, ◌∙◌, arith, w32, to_z, of_z}
use Rattle.std.proofs.lemmas.Int.{ints, to_z-of_z}
use Rattle.fixed_transform.specs.Rotation.{diagonal_entry}
use Rattle.fixed_transform.proofs.turning.diagonal_entry.Goals as goal

pub returns : goal.returns
unfolding diagonal_entry
returns c =
    let u : to_z w32 (of_z w32 c.args.u) ≡ c.args.u = to_z-of_z w32 c.args.u c.ranges.u in
    let cosine : to_z w32 (of_z w32 c.args.cosine) ≡ c.args.cosine = to_z-of_z w32 c.args.cosine c.ranges.cosine in
    let same : to_z w32 (of_z w32 (to_z w32 (of_z w32 c.crossed.result) +ℤ to_z w32 (of_z w32 c.args.cosine))) ≡ c.crossed.result +ℤ c.args.cosine = omega (arith, ints) in
    same ∙ ap (λ (z : ℤ). z +ℤ c.args.cosine) c.crossed.ensures.value ∙ simp (u, cosine)
