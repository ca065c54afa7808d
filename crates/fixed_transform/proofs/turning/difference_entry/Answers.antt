use Rattle.std.proofs.Common.{◌≡◌, ℤ, pos, ◌-ℤ◌, ap, ◌∙◌, arith, w32, to_z, of_z}
use Rattle.std.proofs.lemmas.Int.{ints, to_z-of_z}
use Rattle.fixed_transform.specs.Rotation.{difference_entry, scaled}
use Rattle.fixed_transform.proofs.turning.difference_entry.Goals as goal

pub returns : goal.returns
unfolding difference_entry
returns c =
    let u : to_z w32 (of_z w32 c.args.u) ≡ c.args.u = to_z-of_z w32 c.args.u c.ranges.u in
    let v : to_z w32 (of_z w32 c.args.v) ≡ c.args.v = to_z-of_z w32 c.args.v c.ranges.v in
    let w : to_z w32 (of_z w32 c.args.w) ≡ c.args.w = to_z-of_z w32 c.args.w c.ranges.w in
    let sine : to_z w32 (of_z w32 c.args.sine) ≡ c.args.sine = to_z-of_z w32 c.args.sine c.ranges.sine in
    let cosine : to_z w32 (of_z w32 c.args.cosine) ≡ c.args.cosine = to_z-of_z w32 c.args.cosine c.ranges.cosine in
    let same : to_z w32 (of_z w32 (to_z w32 (of_z w32 c.crossed.result) -ℤ to_z w32 (of_z w32 c.scaled.result))) ≡ c.crossed.result -ℤ c.scaled.result = omega (arith, ints) in
    same ∙ ap (λ (z : ℤ). z -ℤ c.scaled.result) c.crossed.ensures.value
    ∙ ap (λ (z : ℤ). scaled (scaled (to_z w32 (of_z w32 c.args.u)) (to_z w32 (of_z w32 c.args.v))) (pos 65536 -ℤ to_z w32 (of_z w32 c.args.cosine)) -ℤ z) c.scaled.ensures.value
    ∙ simp (u, v, w, sine, cosine)
