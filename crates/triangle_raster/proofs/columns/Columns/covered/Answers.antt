use Rattle.std.proofs.Common.{◌≤ℤ◌, pos, ◌+ℤ◌, arith}
use Rattle.std.proofs.lemmas.Int.{ints}
use Rattle.triangle_raster.proofs.Bounds.{kept_column}
use Rattle.triangle_raster.proofs.CoveredColumns.{among_kept, covered_in_span, pixels_in_span}
use Rattle.triangle_raster.proofs.columns.Columns.covered.Goals as goal

pub returns-clause-covered : goal.returns-clause-covered
returns-clause-covered c =
    let low : pos 0 ≤ℤ c.args.x = c.requires.x in
    let width : (c.args.x +ℤ pos c.args.count) ≤ℤ pos 256 = c.requires.count in
    let starts : pos 0 ≤ℤ c.span_at-span.result.from = c.span_at-span.ensures.span.starts in
    let order : c.span_at-span.result.from ≤ℤ c.span_at-span.result.to = c.span_at-span.ensures.span.in_order in
    let ends : c.span_at-span.result.to ≤ℤ pos c.args.count = c.span_at-span.ensures.end in
    covered_in_span c.args.shape.now c.requires.shape c.args.x c.args.y c.args.count c.span_at-span.result c.span_at-span.ensures.span ends
    (among_kept c.args.shape.now c.span_at-span.result c.args.count (kept_column (omega (arith, ints), omega (arith, ints))) (kept_column c.requires.y) c.span_at-span.ensures.exact)
    _ _ (omega (arith, ints)) (omega (arith, ints))

pub returns-clause-seen : goal.returns-clause-seen
returns-clause-seen c =
    let low : pos 0 ≤ℤ c.args.x = c.requires.x in
    let width : (c.args.x +ℤ pos c.args.count) ≤ℤ pos 256 = c.requires.count in
    let starts : pos 0 ≤ℤ c.span_at-span.result.from = c.span_at-span.ensures.span.starts in
    let order : c.span_at-span.result.from ≤ℤ c.span_at-span.result.to = c.span_at-span.ensures.span.in_order in
    let ends : c.span_at-span.result.to ≤ℤ pos c.args.count = c.span_at-span.ensures.end in
    pixels_in_span c.args.shape.now c.requires.shape c.args.x c.args.y c.args.count c.span_at-span.result c.span_at-span.ensures.span ends
    (among_kept c.args.shape.now c.span_at-span.result c.args.count (kept_column (omega (arith, ints), omega (arith, ints))) (kept_column c.requires.y) c.span_at-span.ensures.exact)
    _ _ (omega (arith, ints)) (omega (arith, ints))
