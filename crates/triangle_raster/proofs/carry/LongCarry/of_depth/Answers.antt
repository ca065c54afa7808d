use Rattle.std.proofs.Common.{◌≡◌, ◌^◌, true, pos, ◌+ℤ◌, ◌*ℤ◌, ◌∙◌, to_z, of_z, w32, rules, arith, lit<}
use Rattle.std.specs.Int.{w128}
use Rattle.std.proofs.lemmas.Int.{ints, to_z-of_z}
use Rattle.triangle_raster.specs.Vertex.{IsWithin}
use Rattle.triangle_raster.proofs.Bounds.{as_128, kept_32, kept_128, within_same}
use Rattle.triangle_raster.proofs.Carries.{carry_kept, carry_same, divisor_kept, long_left_kept}
use Rattle.triangle_raster.proofs.carry.LongCarry.of_depth.Goals as goal

pub returns : goal.returns
returns c =
    let z_near : c.is_near.result ≡ true = search rules in
    let w_near : c.is_near-else-not-is_near.result ≡ true = search rules in
    let is_small : c.is_small.result ≡ true = search rules in
    let near_z : IsWithin (2 ^ 100) (to_z w128 (of_z w128 c.args.z)) = c.is_near.ensures z_near in
    let near_w : IsWithin (2 ^ 100) (to_z w128 (of_z w128 c.args.w)) = c.is_near-else-not-is_near.ensures w_near in
    let same_z : to_z w128 (of_z w128 c.args.z) ≡ c.args.z = to_z-of_z w128 c.args.z c.ranges.z in
    let same_w : to_z w128 (of_z w128 c.args.w) ≡ c.args.w = to_z-of_z w128 c.args.w c.ranges.w in
    let small = c.is_small.ensures is_small in
    let number : to_z w128 (of_z w128 (to_z w128 (of_z w128 (to_z w128 (of_z w128 c.args.z) +ℤ to_z w128 (of_z w128 c.args.w))) *ℤ pos 65535)) ≡ (c.args.z +ℤ c.args.w) *ℤ pos 65535 = omega (arith, ints) in
    let carry = carry_same (divisor_kept c.requires.some c.requires.few) number c.of_sum-split.ensures in
    let same_q : to_z w32 (of_z w32 (to_z w128 (of_z w128 c.of_sum-split.result.quotient))) ≡ c.of_sum-split.result.quotient = kept_32 (as_128 small (lit< tt)) (lit< tt) ∙ kept_128 small (lit< tt) in
    record {
      depth_carried = carry_kept same_q (long_left_kept carry.left c.requires.few) carry;
      depth_slow = within_same _ same_q small;
    }
