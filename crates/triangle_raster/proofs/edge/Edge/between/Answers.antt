use Rattle.std.proofs.Common.{◌^◌, ◌*◌, lit≤, lit<}
use Rattle.triangle_raster.specs.Vertex.{IsWithin, edge_through}
use Rattle.triangle_raster.proofs.Bounds.{within_same, difference_fits_128, difference_is_128, difference_near, as_64, kept_64}
use Rattle.triangle_raster.proofs.Vectors.{same_vector}
use Rattle.triangle_raster.proofs.edge.Edge.between.Goals as goal

pub overflow_sub-result : goal.overflow_sub-result
overflow_sub-result c =
    difference_fits_128
    (c.product.ensures.near (2 ^ 39) (2 ^ 28) (as_64 c.requires.from.upward (lit< tt)) (as_64 c.requires.to.divisor (lit< tt)))
    (c.product-2.ensures.near (2 ^ 28) (2 ^ 39) (as_64 c.requires.from.divisor (lit< tt)) (as_64 c.requires.to.upward (lit< tt)))
    (lit≤ tt)

pub overflow_sub-result-2 : goal.overflow_sub-result-2
overflow_sub-result-2 c =
    difference_fits_128
    (c.product-3.ensures.near (2 ^ 28) (2 ^ 39) (as_64 c.requires.from.divisor (lit< tt)) (as_64 c.requires.to.across (lit< tt)))
    (c.product-4.ensures.near (2 ^ 39) (2 ^ 28) (as_64 c.requires.from.across (lit< tt)) (as_64 c.requires.to.divisor (lit< tt)))
    (lit≤ tt)

pub overflow_sub-result-3 : goal.overflow_sub-result-3
overflow_sub-result-3 c =
    difference_fits_128
    (c.product-5.ensures.near (2 ^ 39) (2 ^ 39) (as_64 c.requires.from.across (lit< tt)) (as_64 c.requires.to.upward (lit< tt)))
    (c.product-6.ensures.near (2 ^ 39) (2 ^ 39) (as_64 c.requires.from.upward (lit< tt)) (as_64 c.requires.to.across (lit< tt)))
    (lit≤ tt)

pub returns-clause-edge : goal.returns-clause-edge
unfolding edge_through
returns-clause-edge c =
    let ax = kept_64 c.requires.from.across (lit< tt) in
    let ay = kept_64 c.requires.from.upward (lit< tt) in
    let ad = kept_64 c.requires.from.divisor (lit< tt) in
    let bx = kept_64 c.requires.to.across (lit< tt) in
    let by' = kept_64 c.requires.to.upward (lit< tt) in
    let bd = kept_64 c.requires.to.divisor (lit< tt) in
    let x =
    difference_is_128
    (c.product.ensures.near (2 ^ 39) (2 ^ 28) (as_64 c.requires.from.upward (lit< tt)) (as_64 c.requires.to.divisor (lit< tt)))
    (c.product-2.ensures.near (2 ^ 28) (2 ^ 39) (as_64 c.requires.from.divisor (lit< tt)) (as_64 c.requires.to.upward (lit< tt)))
    (lit≤ tt)
    in
    let y =
    difference_is_128
    (c.product-3.ensures.near (2 ^ 28) (2 ^ 39) (as_64 c.requires.from.divisor (lit< tt)) (as_64 c.requires.to.across (lit< tt)))
    (c.product-4.ensures.near (2 ^ 39) (2 ^ 28) (as_64 c.requires.from.across (lit< tt)) (as_64 c.requires.to.divisor (lit< tt)))
    (lit≤ tt)
    in
    let d =
    difference_is_128
    (c.product-5.ensures.near (2 ^ 39) (2 ^ 39) (as_64 c.requires.from.across (lit< tt)) (as_64 c.requires.to.upward (lit< tt)))
    (c.product-6.ensures.near (2 ^ 39) (2 ^ 39) (as_64 c.requires.from.upward (lit< tt)) (as_64 c.requires.to.across (lit< tt)))
    (lit≤ tt)
    in
    same_vector (cc) (cc) (cc)

pub returns-clause-near : goal.returns-clause-near
returns-clause-near c =
    let xa : IsWithin (2 ^ 39 * 2 ^ 28) c.product.result = c.product.ensures.near (2 ^ 39) (2 ^ 28) (as_64 c.requires.from.upward (lit< tt)) (as_64 c.requires.to.divisor (lit< tt)) in
    let xb : IsWithin (2 ^ 28 * 2 ^ 39) c.product-2.result = c.product-2.ensures.near (2 ^ 28) (2 ^ 39) (as_64 c.requires.from.divisor (lit< tt)) (as_64 c.requires.to.upward (lit< tt)) in
    let ya : IsWithin (2 ^ 28 * 2 ^ 39) c.product-3.result = c.product-3.ensures.near (2 ^ 28) (2 ^ 39) (as_64 c.requires.from.divisor (lit< tt)) (as_64 c.requires.to.across (lit< tt)) in
    let yb : IsWithin (2 ^ 39 * 2 ^ 28) c.product-4.result = c.product-4.ensures.near (2 ^ 39) (2 ^ 28) (as_64 c.requires.from.across (lit< tt)) (as_64 c.requires.to.divisor (lit< tt)) in
    let da : IsWithin (2 ^ 39 * 2 ^ 39) c.product-5.result = c.product-5.ensures.near (2 ^ 39) (2 ^ 39) (as_64 c.requires.from.across (lit< tt)) (as_64 c.requires.to.upward (lit< tt)) in
    let db : IsWithin (2 ^ 39 * 2 ^ 39) c.product-6.result = c.product-6.ensures.near (2 ^ 39) (2 ^ 39) (as_64 c.requires.from.upward (lit< tt)) (as_64 c.requires.to.across (lit< tt)) in
    record {
      across = within_same _ (difference_is_128 xa xb (lit≤ tt)) (difference_near xa xb (2 ^ 68) (lit≤ tt));
      upward = within_same _ (difference_is_128 ya yb (lit≤ tt)) (difference_near ya yb (2 ^ 68) (lit≤ tt));
      divisor = within_same _ (difference_is_128 da db (lit≤ tt)) (difference_near da db (2 ^ 79) (lit≤ tt));
    }
