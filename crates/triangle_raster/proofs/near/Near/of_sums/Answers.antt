use Rattle.std.proofs.Common.{◌≡◌, ◌^◌, ℤ, pos, ◌+ℤ◌, ◌<ℤ◌, ◌≤ℤ◌, to_z, of_z, w64, arith, lit<}
use Rattle.std.specs.Int.{w128}
use Rattle.std.proofs.lemmas.Int.{ints}
use Rattle.triangle_raster.specs.Vertex.{IsWithin}
use Rattle.triangle_raster.proofs.Bounds.{as_64, kept_128}
use Rattle.triangle_raster.proofs.Vectors.{same_weights}
use Rattle.triangle_raster.proofs.near.Near.of_sums.Goals as goal

abbrev kept : ℤ → ℤ
kept z = to_z w128 (of_z w128 z)

pub returns-clause-small : goal.returns-clause-small
returns-clause-small c =
    let one = c.args.sums.now.one in
    let two = c.args.sums.now.two in
    let three = c.args.sums.now.three in
    let one_is : kept one ≡ one = kept_128 c.requires.sums.near_one (lit< tt) in
    let two_is : kept two ≡ two = kept_128 c.requires.sums.near_two (lit< tt) in
    let three_is : kept three ≡ three = kept_128 c.requires.sums.near_three (lit< tt) in
    let all_is : c.total-all.result ≡ one +ℤ two +ℤ three = cc (c.total-all.ensures.value, one_is, two_is, three_is) in
    let near_one : IsWithin (2 ^ 81) one = c.requires.sums.near_one in
    let near_two : IsWithin (2 ^ 81) two = c.requires.sums.near_two in
    let near_three : IsWithin (2 ^ 81) three = c.requires.sums.near_three in
    let kept_all : kept c.total-all.result ≡ one +ℤ two +ℤ three = omega (arith, ints, all_is, near_one.within, near_two.within, near_three.within) in
    let from_one : pos 0 ≤ℤ one = c.requires.not_negative.from_one in
    let from_two : pos 0 ≤ℤ two = c.requires.not_negative.from_two in
    let from_three : pos 0 ≤ℤ three = c.requires.not_negative.from_three in
    let some : pos 0 <ℤ (one +ℤ two +ℤ three) = c.requires.some in
    let few : (one +ℤ two +ℤ three) ≤ℤ pos (2 ^ 62) = omega (arith, ints, c.if-all-gt-MOST.false, kept_all) in
    let first : to_z w64 (of_z w64 (kept one)) ≡ one = omega (arith, ints, one_is) in
    let second : to_z w64 (of_z w64 (kept two)) ≡ two = omega (arith, ints, two_is) in
    let third : to_z w64 (of_z w64 (kept three)) ≡ three = omega (arith, ints, three_is) in
    let whole : to_z w64 (of_z w64 (kept c.total-all.result)) ≡ one +ℤ two +ℤ three = omega (arith, ints, kept_all) in
    record {
      whole_holds = record {
        some = omega (arith, ints, whole, some);
        few = omega (arith, ints, whole, few);
        short_one = as_64 c.upper.ensures (lit< tt);
        short_two = as_64 c.upper-2.ensures (lit< tt);
        short_three = as_64 c.upper-3.ensures (lit< tt);
        short_factor = record { within = omega (arith, ints, c.reciprocal-factor.ensures.within) };
      };
      whole_is = cc (whole, first, second, third);
      from_one = omega (arith, ints, first, from_one);
      from_two = omega (arith, ints, second, from_two);
      from_three = omega (arith, ints, third, from_three);
    }

pub returns-clause-seen : goal.returns-clause-seen
returns-clause-seen c =
    let one = c.args.sums.now.one in
    let two = c.args.sums.now.two in
    let three = c.args.sums.now.three in
    let one_is : kept one ≡ one = kept_128 c.requires.sums.near_one (lit< tt) in
    let two_is : kept two ≡ two = kept_128 c.requires.sums.near_two (lit< tt) in
    let three_is : kept three ≡ three = kept_128 c.requires.sums.near_three (lit< tt) in
    let all_is : c.total-all.result ≡ one +ℤ two +ℤ three = cc (c.total-all.ensures.value, one_is, two_is, three_is) in
    let near_one : IsWithin (2 ^ 81) one = c.requires.sums.near_one in
    let near_two : IsWithin (2 ^ 81) two = c.requires.sums.near_two in
    let near_three : IsWithin (2 ^ 81) three = c.requires.sums.near_three in
    let kept_all : kept c.total-all.result ≡ one +ℤ two +ℤ three = omega (arith, ints, all_is, near_one.within, near_two.within, near_three.within) in
    let from_one : pos 0 ≤ℤ one = c.requires.not_negative.from_one in
    let from_two : pos 0 ≤ℤ two = c.requires.not_negative.from_two in
    let from_three : pos 0 ≤ℤ three = c.requires.not_negative.from_three in
    let few : (one +ℤ two +ℤ three) ≤ℤ pos (2 ^ 62) = omega (arith, ints, c.if-all-gt-MOST.false, kept_all) in
    let first : to_z w64 (of_z w64 (kept one)) ≡ one = omega (arith, ints, one_is) in
    let second : to_z w64 (of_z w64 (kept two)) ≡ two = omega (arith, ints, two_is) in
    let third : to_z w64 (of_z w64 (kept three)) ≡ three = omega (arith, ints, three_is) in
    same_weights first second third
