use Rattle.std.proofs.Common.{◌^◌, lit≤, lit<}
use Rattle.triangle_raster.specs.Vertex.{value_at}
use Rattle.triangle_raster.proofs.Bounds.{as_64, as_128, kept_64, kept_128, within_more, within_product, within_same}
use Rattle.triangle_raster.proofs.edge.Edge.small_at.Goals as goal

pub short_product-requires-clause-near : goal.short_product-requires-clause-near
short_product-requires-clause-near c =
    within_more (2 ^ 61) (within_product (as_128 c.requires.edge.small_across (lit< tt)) (as_64 c.requires.point.across (lit< tt))) (lit≤ tt)

pub short_product-requires-2-clause-near : goal.short_product-requires-2-clause-near
short_product-requires-2-clause-near c =
    within_more (2 ^ 61) (within_product (as_128 c.requires.edge.small_upward (lit< tt)) (as_64 c.requires.point.upward (lit< tt))) (lit≤ tt)

pub short_product-requires-3-clause-near : goal.short_product-requires-3-clause-near
short_product-requires-3-clause-near c =
    within_more (2 ^ 61) (within_product (as_128 c.requires.edge.small_divisor (lit< tt)) (as_64 c.requires.point.divisor (lit< tt))) (lit≤ tt)

pub short_total-requires-clause-a : goal.short_total-requires-clause-a
short_total-requires-clause-a c =
    as_64 (within_same _ c.short_product.ensures (within_more (2 ^ 60) (within_product (as_128 c.requires.edge.small_across (lit< tt)) (as_64 c.requires.point.across (lit< tt))) (lit≤ tt))) (lit< tt)

pub short_total-requires-clause-b : goal.short_total-requires-clause-b
short_total-requires-clause-b c =
    as_64 (within_same _ c.short_product-2.ensures (within_more (2 ^ 60) (within_product (as_128 c.requires.edge.small_upward (lit< tt)) (as_64 c.requires.point.upward (lit< tt))) (lit≤ tt))) (lit< tt)

pub short_total-requires-clause-c : goal.short_total-requires-clause-c
short_total-requires-clause-c c =
    as_64 (within_same _ c.short_product-3.ensures (within_more (2 ^ 61) (within_product (as_128 c.requires.edge.small_divisor (lit< tt)) (as_64 c.requires.point.divisor (lit< tt))) (lit≤ tt))) (lit< tt)

pub returns-clause-value : goal.returns-clause-value
unfolding value_at
returns-clause-value c =
    let first = within_same _ c.short_product.ensures (within_product (as_128 c.requires.edge.small_across (lit< tt)) (as_64 c.requires.point.across (lit< tt))) in
    let second = within_same _ c.short_product-2.ensures (within_product (as_128 c.requires.edge.small_upward (lit< tt)) (as_64 c.requires.point.upward (lit< tt))) in
    let third = within_same _ c.short_product-3.ensures (within_product (as_128 c.requires.edge.small_divisor (lit< tt)) (as_64 c.requires.point.divisor (lit< tt))) in
    cc (
      c.short_total.ensures.value,
      c.short_product.ensures,
      c.short_product-2.ensures,
      c.short_product-3.ensures,
      kept_64 c.short_total.ensures.near (lit< tt),
      kept_64 first (lit< tt),
      kept_64 second (lit< tt),
      kept_64 third (lit< tt),
      kept_128 c.requires.edge.small_across (lit< tt),
      kept_128 c.requires.edge.small_upward (lit< tt),
      kept_128 c.requires.edge.small_divisor (lit< tt),
      kept_64 c.requires.point.across (lit< tt),
      kept_64 c.requires.point.upward (lit< tt),
      kept_64 c.requires.point.divisor (lit< tt),
    )
