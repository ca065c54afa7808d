use Rattle.std.proofs.Common.{◌≡◌, ◌^◌, w64, arith, lit≤, lit<}
use Rattle.std.specs.Int.{int_div_euclid}
use Rattle.std.proofs.lemmas.Int.{ints, to_z-of_z}
use Rattle.triangle_raster.specs.Vertex.{IsWithin}
use Rattle.triangle_raster.proofs.Bounds.{kept_64, within_more, within_same}
use Rattle.triangle_raster.proofs.Spans.{first_is, quotient_near}
use Rattle.triangle_raster.proofs.span.small_first_not_below_zero.Goals as goal

pub overflow_sub-result : goal.overflow_sub-result
overflow_sub-result c =
    let same : c.small_quotient.result ≡ int_div_euclid c.args.sum c.args.step = cc (kept_64 c.requires.sum (lit< tt), to_z-of_z w64 c.args.step c.ranges.step, c.small_quotient.ensures) in
    let near : IsWithin (2 ^ 81) c.small_quotient.result = within_same _ same (quotient_near c.args.sum c.args.step c.requires.step (within_more (2 ^ 81) c.requires.sum (lit≤ tt))) in
    omega (arith, ints)

pub returns : goal.returns
returns c =
    let same : c.small_quotient.result ≡ int_div_euclid c.args.sum c.args.step = cc (kept_64 c.requires.sum (lit< tt), to_z-of_z w64 c.args.step c.ranges.step, c.small_quotient.ensures) in
    let near : IsWithin (2 ^ 81) c.small_quotient.result = within_same _ same (quotient_near c.args.sum c.args.step c.requires.step (within_more (2 ^ 81) c.requires.sum (lit≤ tt))) in
    first_is c.args.sum c.args.step c.requires.step _ c.small_quotient.result (omega (arith, ints)) same
