use Rattle.std.proofs.Common.{◌^◌, lit≤, lit<}
use Rattle.triangle_raster.specs.Pixel.{weighted}
use Rattle.triangle_raster.proofs.Bounds.{as_32, as_64, as_128, as_wider_128, kept_32, kept_64, kept_128}
use Rattle.triangle_raster.proofs.sums.Sums.weighted.Goals as goal

pub total-requires-clause-a : goal.total-requires-clause-a
total-requires-clause-a c =
    as_wider_128 (2 ^ 120)
    (c.long_product.ensures.near (2 ^ 81) (2 ^ 27) (as_128 c.requires.sums.near_one (lit< tt)) (as_64 (as_32 c.requires.a (lit< tt)) (lit< tt)))
    (lit≤ tt) (lit< tt)

pub total-requires-clause-b : goal.total-requires-clause-b
total-requires-clause-b c =
    as_wider_128 (2 ^ 120)
    (c.long_product-2.ensures.near (2 ^ 81) (2 ^ 27) (as_128 c.requires.sums.near_two (lit< tt)) (as_64 (as_32 c.requires.b (lit< tt)) (lit< tt)))
    (lit≤ tt) (lit< tt)

pub total-requires-clause-c : goal.total-requires-clause-c
total-requires-clause-c c =
    as_wider_128 (2 ^ 120)
    (c.long_product-3.ensures.near (2 ^ 81) (2 ^ 27) (as_128 c.requires.sums.near_three (lit< tt)) (as_64 (as_32 c.requires.c (lit< tt)) (lit< tt)))
    (lit≤ tt) (lit< tt)

pub returns-clause-near : goal.returns-clause-near
returns-clause-near c =
    as_wider_128 (2 ^ 110)
    (c.total.ensures.near (2 ^ 108) (2 ^ 108) (2 ^ 108)
    (as_128 (c.long_product.ensures.near (2 ^ 81) (2 ^ 27) (as_128 c.requires.sums.near_one (lit< tt)) (as_64 (as_32 c.requires.a (lit< tt)) (lit< tt))) (lit< tt))
    (as_128 (c.long_product-2.ensures.near (2 ^ 81) (2 ^ 27) (as_128 c.requires.sums.near_two (lit< tt)) (as_64 (as_32 c.requires.b (lit< tt)) (lit< tt))) (lit< tt))
    (as_128 (c.long_product-3.ensures.near (2 ^ 81) (2 ^ 27) (as_128 c.requires.sums.near_three (lit< tt)) (as_64 (as_32 c.requires.c (lit< tt)) (lit< tt))) (lit< tt)))
    (lit≤ tt) (lit< tt)

pub returns-clause-value : goal.returns-clause-value
unfolding weighted
returns-clause-value c =
    let first = c.long_product.ensures.near (2 ^ 81) (2 ^ 27) (as_128 c.requires.sums.near_one (lit< tt)) (as_64 (as_32 c.requires.a (lit< tt)) (lit< tt)) in
    let second = c.long_product-2.ensures.near (2 ^ 81) (2 ^ 27) (as_128 c.requires.sums.near_two (lit< tt)) (as_64 (as_32 c.requires.b (lit< tt)) (lit< tt)) in
    let third = c.long_product-3.ensures.near (2 ^ 81) (2 ^ 27) (as_128 c.requires.sums.near_three (lit< tt)) (as_64 (as_32 c.requires.c (lit< tt)) (lit< tt)) in
    let whole = c.total.ensures.near (2 ^ 108) (2 ^ 108) (2 ^ 108) (as_128 first (lit< tt)) (as_128 second (lit< tt)) (as_128 third (lit< tt)) in
    cc (
      kept_128 whole (lit< tt),
      kept_128 first (lit< tt),
      kept_128 second (lit< tt),
      kept_128 third (lit< tt),
      kept_128 c.requires.sums.near_one (lit< tt),
      kept_128 c.requires.sums.near_two (lit< tt),
      kept_128 c.requires.sums.near_three (lit< tt),
      kept_64 (as_32 c.requires.a (lit< tt)) (lit< tt),
      kept_64 (as_32 c.requires.b (lit< tt)) (lit< tt),
      kept_64 (as_32 c.requires.c (lit< tt)) (lit< tt),
      kept_32 c.requires.a (lit< tt),
      kept_32 c.requires.b (lit< tt),
      kept_32 c.requires.c (lit< tt),
    )
