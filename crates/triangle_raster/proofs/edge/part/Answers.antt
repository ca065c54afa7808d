use Rattle.std.proofs.Common.{◌≡◌, ◌+ℤ◌, ◌*◌, ◌^◌, w64, to_z, of_z, lit≤, lit<}
use Rattle.triangle_raster.specs.Vertex.{IsWithin}
use Rattle.triangle_raster.proofs.Bounds.{within_same, side_within, sum_fits_64, sum_is_64, sum_near, as_32, kept_32}
use Rattle.triangle_raster.proofs.edge.part.Goals as goal

pub overflow_add-result : goal.overflow_add-result
overflow_add-result c =
    sum_fits_64
    (c.small_product.ensures.near (2 ^ 27) 512 (as_32 c.requires.coordinate (lit< tt)) (as_32 (side_within c.requires.side) (lit< tt)))
    (c.small_product-2.ensures.near (2 ^ 27) 2560 (as_32 c.requires.w (lit< tt)) (as_32 c.stretched-span.ensures.near (lit< tt)))
    (lit≤ tt)

pub returns-clause-value : goal.returns-clause-value
returns-clause-value c =
    let e : to_z w64 (of_z w64 (to_z w64 (of_z w64 c.small_product.result) +ℤ to_z w64 (of_z w64 c.small_product-2.result))) ≡ c.small_product.result +ℤ c.small_product-2.result =
    sum_is_64
    (c.small_product.ensures.near (2 ^ 27) 512 (as_32 c.requires.coordinate (lit< tt)) (as_32 (side_within c.requires.side) (lit< tt)))
    (c.small_product-2.ensures.near (2 ^ 27) 2560 (as_32 c.requires.w (lit< tt)) (as_32 c.stretched-span.ensures.near (lit< tt)))
    (lit≤ tt)
    in
    cc (kept_32 c.requires.coordinate (lit< tt), kept_32 c.requires.w (lit< tt), kept_32 (side_within c.requires.side) (lit< tt), kept_32 c.requires.corner (lit< tt), kept_32 c.stretched-span.ensures.near (lit< tt))

pub returns-clause-near : goal.returns-clause-near
returns-clause-near c =
    let first : IsWithin (2 ^ 27 * 512) c.small_product.result =
    c.small_product.ensures.near (2 ^ 27) 512 (as_32 c.requires.coordinate (lit< tt)) (as_32 (side_within c.requires.side) (lit< tt))
    in
    let second : IsWithin (2 ^ 27 * 2560) c.small_product-2.result =
    c.small_product-2.ensures.near (2 ^ 27) 2560 (as_32 c.requires.w (lit< tt)) (as_32 c.stretched-span.ensures.near (lit< tt))
    in within_same _ (sum_is_64 first second (lit≤ tt)) (sum_near first second (2 ^ 39) (lit≤ tt))
