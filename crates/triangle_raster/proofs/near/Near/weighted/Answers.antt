use Rattle.std.proofs.Common.{◌≡◌, ◌^◌, pos, ◌+ℤ◌, ◌≤ℤ◌, arith, lit≤, lit<}
use Rattle.std.proofs.lemmas.Int.{ints}
use Rattle.triangle_raster.specs.Nearby.{AreSmallSums}
use Rattle.triangle_raster.specs.Pixel.{weighted}
use Rattle.triangle_raster.specs.declared.near.Near.{Near}
use Rattle.triangle_raster.specs.Vertex.{IsWithin}
use Rattle.triangle_raster.proofs.Bounds.{as_32, as_64, as_128, as_wider_128, kept_32, kept_64, kept_128}
use Rattle.triangle_raster.proofs.near.Near.weighted.Goals as goal

one_small : (n : Near) → AreSmallSums n → IsWithin (2 ^ 62) n.one
one_small n sums =
    let few : n.whole ≤ℤ pos (2 ^ 62) = sums.whole_holds.few in
    let is : n.whole ≡ n.one +ℤ n.two +ℤ n.three = sums.whole_is in
    let one : pos 0 ≤ℤ n.one = sums.from_one in
    let two : pos 0 ≤ℤ n.two = sums.from_two in
    let three : pos 0 ≤ℤ n.three = sums.from_three in
    record { within = omega (arith, ints) }

two_small : (n : Near) → AreSmallSums n → IsWithin (2 ^ 62) n.two
two_small n sums =
    let few : n.whole ≤ℤ pos (2 ^ 62) = sums.whole_holds.few in
    let is : n.whole ≡ n.one +ℤ n.two +ℤ n.three = sums.whole_is in
    let one : pos 0 ≤ℤ n.one = sums.from_one in
    let two : pos 0 ≤ℤ n.two = sums.from_two in
    let three : pos 0 ≤ℤ n.three = sums.from_three in
    record { within = omega (arith, ints) }

three_small : (n : Near) → AreSmallSums n → IsWithin (2 ^ 62) n.three
three_small n sums =
    let few : n.whole ≤ℤ pos (2 ^ 62) = sums.whole_holds.few in
    let is : n.whole ≡ n.one +ℤ n.two +ℤ n.three = sums.whole_is in
    let one : pos 0 ≤ℤ n.one = sums.from_one in
    let two : pos 0 ≤ℤ n.two = sums.from_two in
    let three : pos 0 ≤ℤ n.three = sums.from_three in
    record { within = omega (arith, ints) }

pub total-requires-clause-a : goal.total-requires-clause-a
total-requires-clause-a c =
    as_wider_128 (2 ^ 120)
    (c.product.ensures.near (2 ^ 62) (2 ^ 27) (as_64 (one_small c.args.self.now c.requires.sums) (lit< tt)) (as_64 (as_32 c.requires.a (lit< tt)) (lit< tt)))
    (lit≤ tt) (lit< tt)

pub total-requires-clause-b : goal.total-requires-clause-b
total-requires-clause-b c =
    as_wider_128 (2 ^ 120)
    (c.product-2.ensures.near (2 ^ 62) (2 ^ 27) (as_64 (two_small c.args.self.now c.requires.sums) (lit< tt)) (as_64 (as_32 c.requires.b (lit< tt)) (lit< tt)))
    (lit≤ tt) (lit< tt)

pub total-requires-clause-c : goal.total-requires-clause-c
total-requires-clause-c c =
    as_wider_128 (2 ^ 120)
    (c.product-3.ensures.near (2 ^ 62) (2 ^ 27) (as_64 (three_small c.args.self.now c.requires.sums) (lit< tt)) (as_64 (as_32 c.requires.c (lit< tt)) (lit< tt)))
    (lit≤ tt) (lit< tt)

pub returns-clause-near : goal.returns-clause-near
returns-clause-near c =
    as_wider_128 (2 ^ 92)
    (c.total.ensures.near (2 ^ 89) (2 ^ 89) (2 ^ 89)
    (as_128 (c.product.ensures.near (2 ^ 62) (2 ^ 27) (as_64 (one_small c.args.self.now c.requires.sums) (lit< tt)) (as_64 (as_32 c.requires.a (lit< tt)) (lit< tt))) (lit< tt))
    (as_128 (c.product-2.ensures.near (2 ^ 62) (2 ^ 27) (as_64 (two_small c.args.self.now c.requires.sums) (lit< tt)) (as_64 (as_32 c.requires.b (lit< tt)) (lit< tt))) (lit< tt))
    (as_128 (c.product-3.ensures.near (2 ^ 62) (2 ^ 27) (as_64 (three_small c.args.self.now c.requires.sums) (lit< tt)) (as_64 (as_32 c.requires.c (lit< tt)) (lit< tt))) (lit< tt)))
    (lit≤ tt) (lit< tt)

pub returns-clause-value : goal.returns-clause-value
unfolding weighted
returns-clause-value c =
    let first = (c.product.ensures.near (2 ^ 62) (2 ^ 27) (as_64 (one_small c.args.self.now c.requires.sums) (lit< tt)) (as_64 (as_32 c.requires.a (lit< tt)) (lit< tt))) in
    let second = (c.product-2.ensures.near (2 ^ 62) (2 ^ 27) (as_64 (two_small c.args.self.now c.requires.sums) (lit< tt)) (as_64 (as_32 c.requires.b (lit< tt)) (lit< tt))) in
    let third = (c.product-3.ensures.near (2 ^ 62) (2 ^ 27) (as_64 (three_small c.args.self.now c.requires.sums) (lit< tt)) (as_64 (as_32 c.requires.c (lit< tt)) (lit< tt))) in
    let whole = c.total.ensures.near (2 ^ 89) (2 ^ 89) (2 ^ 89) (as_128 first (lit< tt)) (as_128 second (lit< tt)) (as_128 third (lit< tt)) in
    cc (
      kept_128 whole (lit< tt),
      kept_128 first (lit< tt),
      kept_128 second (lit< tt),
      kept_128 third (lit< tt),
      kept_64 (one_small c.args.self.now c.requires.sums) (lit< tt),
      kept_64 (two_small c.args.self.now c.requires.sums) (lit< tt),
      kept_64 (three_small c.args.self.now c.requires.sums) (lit< tt),
      kept_64 (as_32 c.requires.a (lit< tt)) (lit< tt),
      kept_64 (as_32 c.requires.b (lit< tt)) (lit< tt),
      kept_64 (as_32 c.requires.c (lit< tt)) (lit< tt),
      kept_32 c.requires.a (lit< tt),
      kept_32 c.requires.b (lit< tt),
      kept_32 c.requires.c (lit< tt),
    )
