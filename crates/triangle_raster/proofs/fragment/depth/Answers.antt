use Rattle.std.proofs.Common.{◌≡◌, ◌≤◌, pos, arith}
use Rattle.std.proofs.lemmas.Int.{ints}
use Rattle.triangle_raster.proofs.Means.{depth_from_code}
use Rattle.triangle_raster.proofs.fragment.depth.Goals as goal

pub overflow_cast-result : goal.overflow_cast-result
overflow_cast-result c =
    let found = depth_from_code c.args.z c.args.w c.short_quotient.ensures c.requires.near c.requires.positive c.requires.from_near c.requires.to_far in
    let is : c.short_quotient.result ≡ pos found.0 = found.1 in
    let small : found.0 ≤ 65535 = found.2 in
    omega (arith, ints)

pub returns : goal.returns
returns c =
    let found = depth_from_code c.args.z c.args.w c.short_quotient.ensures c.requires.near c.requires.positive c.requires.from_near c.requires.to_far in
    let is : c.short_quotient.result ≡ pos found.0 = found.1 in
    let small : found.0 ≤ 65535 = found.2 in
    omega (arith, ints, found.3)
