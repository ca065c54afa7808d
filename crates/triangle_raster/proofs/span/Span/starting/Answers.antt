use Rattle.std.proofs.Common.{◌≡◌, pos, ◌≤ℤ◌, to_z, of_z, w32, arith}
use Rattle.std.specs.Int.{int_max, int_min, w128}
use Rattle.std.proofs.lemmas.Int.{ints, to_z-of_z}
use Rattle.triangle_raster.proofs.Bounds.{kept_column}
use Rattle.triangle_raster.proofs.Spans.{nearest_in, starting_exact}
use Rattle.triangle_raster.proofs.span.Span.starting.Goals as goal

pub returns-clause-exact : goal.returns-clause-exact
returns-clause-exact c = λ k.
    let starts : pos 0 ≤ℤ c.args.self.from = c.requires.span.starts in
    let order : c.args.self.from ≤ℤ c.args.self.to = c.requires.span.in_order in
    let ends : c.args.self.to ≤ℤ pos 256 = c.requires.span.ends in
    let from_kept : to_z w32 (of_z w32 c.args.self.from) ≡ c.args.self.from = kept_column (omega (arith, ints), omega (arith, ints)) in
    let to_kept : to_z w32 (of_z w32 c.args.self.to) ≡ c.args.self.to = kept_column (omega (arith, ints), omega (arith, ints)) in
    let column_kept : to_z w128 (of_z w128 c.args.column) ≡ c.args.column = to_z-of_z w128 c.args.column c.ranges.column in
    let same : c.nearest.result ≡ int_min (int_max c.args.column c.args.self.from) c.args.self.to = cc (c.nearest.ensures.value, from_kept, to_kept, column_kept) in
    let inside = nearest_in c.args.self.from c.args.self.to c.args.column c.nearest.result order same in
    let low : c.args.self.from ≤ℤ c.nearest.result = inside.0 in
    let high : c.nearest.result ≤ℤ c.args.self.to = inside.1 in
    let result_kept : to_z w32 (of_z w32 c.nearest.result) ≡ c.nearest.result = kept_column (omega (arith, ints), omega (arith, ints)) in
    let exact = starting_exact c.args.self.from c.args.self.to c.args.column c.nearest.result order same k in (
      λ h. let from = h.0 in let before = h.1 in exact.0 (omega (arith, ints), omega (arith, ints)),
      λ h. let both = exact.1 h in let from = both.0 in let before = both.1 in (omega (arith, ints), omega (arith, ints)),
    )
