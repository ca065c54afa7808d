use Rattle.std.proofs.Common.{◌≡◌, ◌^◌, arith, lit<}
use Rattle.std.specs.Int.{int_div_euclid, w128}
use Rattle.std.proofs.lemmas.Int.{ints, to_z-of_z}
use Rattle.triangle_raster.specs.Vertex.{IsWithin}
use Rattle.triangle_raster.proofs.Bounds.{kept_128, within_same}
use Rattle.triangle_raster.proofs.Spans.{first_is, quotient_near}
use Rattle.triangle_raster.proofs.span.first_not_below_zero.Goals as goal

pub overflow_sub-result : goal.overflow_sub-result
overflow_sub-result c =
    let same : c.quotient.result ≡ int_div_euclid c.args.sum c.args.step = cc (kept_128 c.requires.sum (lit< tt), to_z-of_z w128 c.args.step c.ranges.step, c.quotient.ensures) in
    let near : IsWithin (2 ^ 81) c.quotient.result = within_same _ same (quotient_near c.args.sum c.args.step c.requires.step c.requires.sum) in
    omega (arith, ints)

pub returns : goal.returns
returns c =
    let same : c.quotient.result ≡ int_div_euclid c.args.sum c.args.step = cc (kept_128 c.requires.sum (lit< tt), to_z-of_z w128 c.args.step c.ranges.step, c.quotient.ensures) in
    let near : IsWithin (2 ^ 81) c.quotient.result = within_same _ same (quotient_near c.args.sum c.args.step c.requires.step c.requires.sum) in
    first_is c.args.sum c.args.step c.requires.step _ c.quotient.result (omega (arith, ints)) same
