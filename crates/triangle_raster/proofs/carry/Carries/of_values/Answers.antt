use Rattle.std.proofs.Common.{◌≡◌, ◌≢◌, ◌<◌, ◌^◌, true, pos, ◌≤ℤ◌, ◌<ℤ◌, ◌∙◌, refl, length, to_z, of_z, w32, w64, rules, arith, lit<, get_or-set_other, length-set, get_or-set_same, below_more}
use Rattle.std.specs.Int.{w128}
use Rattle.std.proofs.lemmas.Int.{ints}
use Rattle.triangle_raster.proofs.Bounds.{as_128, kept_32, kept_128, within_same}
use Rattle.triangle_raster.proofs.Fragments.{weighted_kept}
use Rattle.triangle_raster.proofs.Carries.{carry_kept, carry_same, whole_kept}
use Rattle.triangle_raster.proofs.carry.Carries.of_values.Goals as goal

pub loop-k-preserved : goal.loop-k-preserved
loop-k-preserved c =
    let some : pos 0 <ℤ c.args.whole = c.requires.some in
    let few : c.args.whole ≤ℤ pos (2 ^ 62) = c.requires.few in
    let same_whole : to_z w64 (of_z w64 c.args.whole) ≡ c.args.whole = whole_kept some few in
    let few' : to_z w64 (of_z w64 c.args.whole) ≤ℤ pos (2 ^ 62) = omega (arith, ints) in
    let wide : to_z w128 (of_z w128 (to_z w64 (of_z w64 c.args.whole))) ≡ to_z w64 (of_z w64 c.args.whole) = omega (arith, ints) in
    let is_small : c.is_small.result ≡ true = search rules in
    let small = c.is_small.ensures is_small in
    let inside_a : c.loop-k.k < length c.args.a.now = search rules in
    let inside_b : c.loop-k.k < length c.args.b.now = search rules in
    let inside_c : c.loop-k.k < length c.args.c.now = search rules in
    let in_values : c.loop-k.k < length c.loop-k.values = omega arith in
    let in_remainders : c.loop-k.k < length c.loop-k.remainders = omega arith in
    let sum = kept_128 c.weighted-sum.ensures.near (lit< tt) ∙ c.weighted-sum.ensures.value
    ∙ weighted_kept _ (kept_32 (c.requires.a c.loop-k.k (pos 0) inside_a) (lit< tt)) (kept_32 (c.requires.b c.loop-k.k (pos 0) inside_b) (lit< tt)) (kept_32 (c.requires.c c.loop-k.k (pos 0) inside_c) (lit< tt))
    in
    let carry = carry_same wide sum c.of_sum-split.ensures in
    let same_q : to_z w32 (of_z w32 (to_z w128 (of_z w128 c.of_sum-split.result.quotient))) ≡ c.of_sum-split.result.quotient = kept_32 (as_128 small (lit< tt)) (lit< tt) ∙ kept_128 small (lit< tt) in
    let low : pos 0 ≤ℤ c.of_sum-split.result.remainder = carry.left.from_zero in
    let high : c.of_sum-split.result.remainder <ℤ to_z w64 (of_z w64 c.args.whole) = carry.left.below in
    let same_r : to_z w64 (of_z w64 (to_z w128 (of_z w128 c.of_sum-split.result.remainder))) ≡ c.of_sum-split.result.remainder = omega (arith, ints) in
    record {
      ten_values = simp length-set c.loop-k.invariant.ten_values;
      ten_remainders = simp length-set c.loop-k.invariant.ten_remainders;
      so_far = below_more _ _
          (λ j h. let other : j ≢ c.loop-k.k = omega arith in rw get_or-set_other (rw get_or-set_other (c.loop-k.invariant.so_far j h)))
          (rw get_or-set_same (rw get_or-set_same (carry_kept same_q same_r carry, within_same _ same_q small)));
      same_values = λ j h. let other : j ≢ c.loop-k.k = omega arith in rw get_or-set_other (c.loop-k.invariant.same_values j (omega arith));
    }

pub returns : goal.returns
returns c =
    let same_whole : to_z w64 (of_z w64 c.args.whole) ≡ c.args.whole = whole_kept c.requires.some c.requires.few in
    (record { each = λ k below. carry_same same_whole refl (c.loop-k.invariant.so_far k (omega arith)).0 }, λ k below. (c.loop-k.invariant.so_far k (omega arith)).1, λ k from. c.loop-k.invariant.same_values k (omega arith), c.loop-k.invariant.ten_values)
