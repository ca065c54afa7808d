use Rattle.std.proofs.Common.{◌≡◌, ◌^◌, ℤ, pos, ◌-ℤ◌, ◌*ℤ◌, ◌≤ℤ◌, ◌<ℤ◌, to_z, of_z, ◌∙◌, w64, arith, lit<}
use Rattle.std.specs.Int.{w128}
use Rattle.std.proofs.lemmas.Int.{ints}
use Rattle.triangle_raster.specs.Vertex.{IsWithin}
use Rattle.triangle_raster.proofs.Bounds.{kept_64, kept_128, within_product}
use Rattle.triangle_raster.proofs.Quotients.{guessed}
use Rattle.triangle_raster.proofs.near.Near.over.Goals as goal

abbrev kept : ℤ → ℤ
kept z = to_z w128 (of_z w128 z)

pub returns-then-left-whole : goal.returns-then-left-whole
returns-then-left-whole c =
    let sum = c.args.sum in
    let whole = c.args.self.now.whole in
    let guess = c.args.guess in
    let some : pos 0 <ℤ whole = c.requires.whole.some in
    let few : whole ≤ℤ pos (2 ^ 62) = c.requires.whole.few in
    let wide : IsWithin (2 ^ 62) whole = record { within = omega (arith, ints) } in
    let small : IsWithin (2 ^ 60) guess = c.requires.guess in
    let near = within_product wide small in
    let product : c.product.result ≡ whole *ℤ guess = cc (c.product.ensures.value, kept_64 wide (lit< tt), kept_64 small (lit< tt)) in
    let same : kept c.product.result ≡ whole *ℤ guess = cc (product, kept_128 near (lit< tt)) in
    let whole_is : kept (to_z w64 (of_z w64 whole)) ≡ whole = omega (arith, ints, wide.within) in
    let guess_is : kept (to_z w64 (of_z w64 guess)) ≡ guess = omega (arith, ints, small.within) in
    let sum_is : kept sum ≡ sum = kept_128 c.requires.sum (lit< tt) in
    let left : kept (kept sum -ℤ kept c.product.result) ≡ sum -ℤ kept c.product.result = omega (arith, ints, near.within, same, sum_is, c.requires.sum.within) in
    let low : pos 0 ≤ℤ kept (kept sum -ℤ kept c.product.result) = omega (arith, ints, c.if-left-ge0.true) in
    let high : kept (kept sum -ℤ kept c.product.result) <ℤ whole = omega (arith, ints, c.if-left-whole.true, whole_is) in
    guess_is ∙ guessed sum whole guess _ _ some same left low high
