use Rattle.std.proofs.Common.{◌^◌, lit≤, lit<}
use Rattle.triangle_raster.specs.Vertex.{value_at}
use Rattle.triangle_raster.proofs.Bounds.{as_64, as_128, as_wider_128, kept_64, kept_128}
use Rattle.triangle_raster.proofs.edge.Edge.at.Goals as goal

pub total-requires-clause-a : goal.total-requires-clause-a
total-requires-clause-a c =
    as_wider_128 (2 ^ 120)
    (c.long_product.ensures.near (2 ^ 68) (2 ^ 39) (as_128 c.requires.edge.across (lit< tt)) (as_64 c.requires.point.across (lit< tt)))
    (lit≤ tt) (lit< tt)

pub total-requires-clause-b : goal.total-requires-clause-b
total-requires-clause-b c =
    as_wider_128 (2 ^ 120)
    (c.long_product-2.ensures.near (2 ^ 68) (2 ^ 39) (as_128 c.requires.edge.upward (lit< tt)) (as_64 c.requires.point.upward (lit< tt)))
    (lit≤ tt) (lit< tt)

pub total-requires-clause-c : goal.total-requires-clause-c
total-requires-clause-c c =
    as_wider_128 (2 ^ 120)
    (c.long_product-3.ensures.near (2 ^ 79) (2 ^ 28) (as_128 c.requires.edge.divisor (lit< tt)) (as_64 c.requires.point.divisor (lit< tt)))
    (lit≤ tt) (lit< tt)

pub returns-clause-at_a_corner : goal.returns-clause-at_a_corner
returns-clause-at_a_corner c =
    as_wider_128 (2 ^ 109)
    (c.total.ensures.near (2 ^ 107) (2 ^ 107) (2 ^ 107)
    (as_128 (c.long_product.ensures.near (2 ^ 68) (2 ^ 39) (as_128 c.requires.edge.across (lit< tt)) (as_64 c.requires.point.across (lit< tt))) (lit< tt))
    (as_128 (c.long_product-2.ensures.near (2 ^ 68) (2 ^ 39) (as_128 c.requires.edge.upward (lit< tt)) (as_64 c.requires.point.upward (lit< tt))) (lit< tt))
    (as_128 (c.long_product-3.ensures.near (2 ^ 79) (2 ^ 28) (as_128 c.requires.edge.divisor (lit< tt)) (as_64 c.requires.point.divisor (lit< tt))) (lit< tt)))
    (lit≤ tt) (lit< tt)

pub returns-clause-at_a_centre : goal.returns-clause-at_a_centre
returns-clause-at_a_centre c = λ near.
    as_wider_128 (2 ^ 81)
    (c.total.ensures.near (2 ^ 78) (2 ^ 78) (2 ^ 80)
    (as_128 (c.long_product.ensures.near (2 ^ 68) (2 ^ 10) (as_128 c.requires.edge.across (lit< tt)) (as_64 near.across (lit< tt))) (lit< tt))
    (as_128 (c.long_product-2.ensures.near (2 ^ 68) (2 ^ 10) (as_128 c.requires.edge.upward (lit< tt)) (as_64 near.upward (lit< tt))) (lit< tt))
    (as_128 (c.long_product-3.ensures.near (2 ^ 79) 2 (as_128 c.requires.edge.divisor (lit< tt)) (as_64 near.divisor (lit< tt))) (lit< tt)))
    (lit≤ tt) (lit< tt)

pub returns-clause-value : goal.returns-clause-value
unfolding value_at
returns-clause-value c =
    let first = c.long_product.ensures.near (2 ^ 68) (2 ^ 39) (as_128 c.requires.edge.across (lit< tt)) (as_64 c.requires.point.across (lit< tt)) in
    let second = c.long_product-2.ensures.near (2 ^ 68) (2 ^ 39) (as_128 c.requires.edge.upward (lit< tt)) (as_64 c.requires.point.upward (lit< tt)) in
    let third = c.long_product-3.ensures.near (2 ^ 79) (2 ^ 28) (as_128 c.requires.edge.divisor (lit< tt)) (as_64 c.requires.point.divisor (lit< tt)) in
    let whole = c.total.ensures.near (2 ^ 107) (2 ^ 107) (2 ^ 107) (as_128 first (lit< tt)) (as_128 second (lit< tt)) (as_128 third (lit< tt)) in
    cc (
      kept_128 whole (lit< tt),
      kept_128 first (lit< tt),
      kept_128 second (lit< tt),
      kept_128 third (lit< tt),
      kept_128 c.requires.edge.across (lit< tt),
      kept_128 c.requires.edge.upward (lit< tt),
      kept_128 c.requires.edge.divisor (lit< tt),
      kept_64 c.requires.point.across (lit< tt),
      kept_64 c.requires.point.upward (lit< tt),
      kept_64 c.requires.point.divisor (lit< tt),
    )
