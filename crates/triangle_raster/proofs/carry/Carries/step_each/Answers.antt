use Rattle.std.proofs.Common.{◌≡◌, ◌≢◌, ◌<◌, ◌^◌, ℤ, pos, ◌+ℤ◌, ◌≤ℤ◌, ◌∙◌, refl, sym, subst, length, to_z, of_z, w64, arith, lit<, get_or-set_other, length-set, get_or-set_same, below_more}
use Rattle.std.proofs.lemmas.Int.{to_z-of_z}
use Rattle.triangle_raster.specs.Carry.{IsCarry}
use Rattle.triangle_raster.specs.Ranges.{number_at}
use Rattle.triangle_raster.specs.Vertex.{IsWithin}
use Rattle.triangle_raster.proofs.Bounds.{kept_32}
use Rattle.triangle_raster.proofs.Carries.{carry_kept, left_kept, left_same}
use Rattle.triangle_raster.proofs.carry.Carries.step_each.Goals as goal

pub loop-k-preserved : goal.loop-k-preserved
loop-k-preserved c =
    let whole : to_z w64 (of_z w64 c.args.whole) ≡ c.args.whole = to_z-of_z w64 c.args.whole c.ranges.whole in
    let few : to_z w64 (of_z w64 c.args.whole) ≤ℤ pos (2 ^ 62) = subst (λ (z : ℤ). z ≤ℤ pos (2 ^ 62)) (sym whole) c.requires.few in
    let below : c.loop-k.k < c.args.count = omega arith in
    let same_value = c.loop-k.invariant.same_values c.loop-k.k (omega arith) in
    let same_remainder = c.loop-k.invariant.same_remainders c.loop-k.k (omega arith) in
    let in_values : c.loop-k.k < length c.loop-k.self.values = omega arith in
    let in_remainders : c.loop-k.k < length c.loop-k.self.remainders = omega arith in
    record {
      ten_values = simp length-set c.loop-k.invariant.ten_values;
      ten_remainders = simp length-set c.loop-k.invariant.ten_remainders;
      so_far = below_more _ _
          (λ j h m n here further.
          let other : j ≢ c.loop-k.k = omega arith in
          rw get_or-set_other (rw get_or-set_other (c.loop-k.invariant.so_far j h m n here further)))
          (λ m n here further.
          rw get_or-set_same
          (rw get_or-set_same
          (carry_kept (kept_32 c.stepped-next.ensures.near (lit< tt)) (left_kept c.stepped-next.ensures.left few)
          (c.stepped-next.ensures.carried m n
          (carry_kept (kept_32 (subst (λ (z : ℤ). IsWithin (2 ^ 27) z) (sym same_value) (c.requires.near c.loop-k.k below)) (lit< tt) ∙ same_value)
          (left_kept (left_same whole same_remainder (c.requires.here c.loop-k.k below)) few ∙ same_remainder) here)
          (carry_kept (kept_32 (c.requires.slow c.loop-k.k below) (lit< tt)) (left_kept (left_same whole refl (c.requires.further c.loop-k.k below)) few) further)))));
      same_values = λ j h. let other : j ≢ c.loop-k.k = omega arith in rw get_or-set_other (c.loop-k.invariant.same_values j (omega arith));
      same_remainders = λ j h. let other : j ≢ c.loop-k.k = omega arith in rw get_or-set_other (c.loop-k.invariant.same_remainders j (omega arith));
    }

pub returns-clause-carried : goal.returns-clause-carried
returns-clause-carried c = λ m n here further.
    let whole : to_z w64 (of_z w64 c.args.whole) ≡ c.args.whole = to_z-of_z w64 c.args.whole c.ranges.whole in
    record {
      each = λ k below.
          subst (λ (z : ℤ). IsCarry z (m k +ℤ n k) (number_at c.loop-k.self.values k) (number_at c.loop-k.self.remainders k)) whole
          (c.loop-k.invariant.so_far k (omega arith) (m k) (n k)
          (subst (λ (z : ℤ). IsCarry z (m k) (number_at c.args.self.now.values k) (number_at c.args.self.now.remainders k)) (sym whole) (here.each k below))
          (subst (λ (z : ℤ). IsCarry z (n k) (number_at c.args.steps.now.values k) (number_at c.args.steps.now.remainders k)) (sym whole) (further.each k below)));
    }
