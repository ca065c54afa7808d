use Rattle.std.proofs.Common.{pos, ◌≤ℤ◌, sym, ◌∙◌, arith}
use Rattle.std.proofs.lemmas.Int.{ints}
use Rattle.triangle_raster.proofs.Fragments.{all_true}
use Rattle.triangle_raster.proofs.extent.bottom_of.Goals as goal

pub returns-then-all_of-clause-bounds : goal.returns-then-all_of-clause-bounds
returns-then-all_of-clause-bounds c =
    let row = c.lesser-row.ensures in
    let low : pos 0 ≤ℤ c.lesser-row.result = row.0 in
    let high : c.lesser-row.result ≤ℤ pos 255 = row.1 in
    (omega (arith, ints), omega (arith, ints))

pub returns-then-all_of-clause-over : goal.returns-then-all_of-clause-over
returns-then-all_of-clause-over c = λ more.
    let all = all_true _ _ _ (sym c.all_of.ensures ∙ c.if-all_of.true) in
    record { first_over = c.is_over.ensures all.0; second_over = c.is_over-2.ensures all.1; third_over = c.is_over-3.ensures all.2 }
