use Rattle.std.proofs.Common.{◌≡◌, ◌*◌, ◌^◌, ℤ, pos, ◌-ℤ◌, ◌*ℤ◌, ◌≤ℤ◌, ◌<ℤ◌, to_z, of_z, ap, ◌∙◌, arith, lit<}
use Rattle.std.specs.Int.{w128}
use Rattle.std.proofs.lemmas.Int.{ints, to_z-of_z}
use Rattle.triangle_raster.specs.Vertex.{IsWithin}
use Rattle.triangle_raster.proofs.Bounds.{kept_128, within_product}
use Rattle.triangle_raster.proofs.Quotients.{guessed, product_not_negative}
use Rattle.triangle_raster.proofs.arithmetic.short_quotient.Goals as goal

abbrev kept : ℤ → ℤ
kept z = to_z w128 (of_z w128 z)

pub returns-then-left-whole : goal.returns-then-left-whole
returns-then-left-whole c =
    let sum = c.args.sum in
    let whole = c.args.whole in
    let guess = c.from-guess.result in
    let some : pos 0 <ℤ whole = c.requires.some in
    let few : whole ≤ℤ pos (2 ^ 111) = c.requires.few in
    let from_zero : pos 0 ≤ℤ sum = c.requires.not_negative in
    let wide : IsWithin (2 ^ 111) whole = record { within = omega (arith, ints) } in
    let small : IsWithin 65535 guess = record { within = omega (arith, ints, c.from-guess.ensures, c.guess.ensures) } in
    let near = within_product wide small in
    let same : kept whole *ℤ kept guess ≡ whole *ℤ guess = cc (kept_128 wide (lit< tt), kept_128 small (lit< tt)) in
    let product : kept (kept whole *ℤ kept guess) ≡ whole *ℤ guess = ap kept same ∙ kept_128 near (lit< tt) in
    let sum_is : kept sum ≡ sum = to_z-of_z w128 sum c.ranges.sum in
    let whole_is : kept whole ≡ whole = kept_128 wide (lit< tt) in
    let none_below : pos 0 ≤ℤ guess = omega (arith, ints, c.from-guess.ensures) in
    let product_low : pos 0 ≤ℤ (whole *ℤ guess) = product_not_negative whole guess (omega (arith, ints)) none_below in
    let product_high : IsWithin (2 ^ 111 * 65535) (whole *ℤ guess) = near in
    let left : kept (kept sum -ℤ kept (kept whole *ℤ kept guess)) ≡ sum -ℤ kept (kept whole *ℤ kept guess) = omega (arith, ints, product_high.within, product_low, product, sum_is, c.ranges.sum, from_zero) in
    let low : pos 0 ≤ℤ kept (kept sum -ℤ kept (kept whole *ℤ kept guess)) = omega (arith, ints, c.if-left-ge0.true) in
    let high : kept (kept sum -ℤ kept (kept whole *ℤ kept guess)) <ℤ whole = omega (arith, ints, c.if-left-whole.true, whole_is) in
    kept_128 small (lit< tt) ∙ guessed sum whole guess _ _ some product left low high
