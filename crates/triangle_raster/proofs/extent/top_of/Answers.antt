use Rattle.std.proofs.Common.{pos, ◌≤ℤ◌, sym, ◌∙◌, arith}
use Rattle.std.proofs.lemmas.Int.{ints}
use Rattle.triangle_raster.proofs.Fragments.{all_true}
use Rattle.triangle_raster.proofs.extent.top_of.Goals as goal

pub returns-then-all_of-clause-bounds : goal.returns-then-all_of-clause-bounds
returns-then-all_of-clause-bounds c =
    let row = c.greater-row.ensures in
    let low : pos 0 ≤ℤ c.greater-row.result = row.0 in
    let high : c.greater-row.result ≤ℤ pos 255 = row.1 in
    (omega (arith, ints), omega (arith, ints))

pub returns-then-all_of-clause-under : goal.returns-then-all_of-clause-under
returns-then-all_of-clause-under c = λ less.
    let all = all_true _ _ _ (sym c.all_of.ensures ∙ c.if-all_of.true) in
    record { first_under = c.is_under.ensures all.0; second_under = c.is_under-2.ensures all.1; third_under = c.is_under-3.ensures all.2 }
