use Rattle.std.proofs.Common.{refl, arith, lit<}
use Rattle.std.proofs.lemmas.Int.{ints}
use Rattle.triangle_raster.specs.declared.sums.Sums.{Sums}
use Rattle.triangle_raster.proofs.Bounds.{kept_64, kept_column}
use Rattle.triangle_raster.proofs.Shapes.{centre_as_seen, from_weights, value_as_seen}
use Rattle.triangle_raster.proofs.Spans.{covered_among}
use Rattle.triangle_raster.proofs.shape.Shape.small_span.Goals as goal

pub small_at-first-requires-clause-edge : goal.small_at-first-requires-clause-edge
small_at-first-requires-clause-edge c = c.requires.shape.first_small c.requires.small

pub small_at-second-requires-clause-edge : goal.small_at-second-requires-clause-edge
small_at-second-requires-clause-edge c = c.requires.shape.second_small c.requires.small

pub small_at-third-requires-clause-edge : goal.small_at-third-requires-clause-edge
small_at-third-requires-clause-edge c = c.requires.shape.third_small c.requires.small

pub small_narrowed-one-requires-clause-edge : goal.small_narrowed-one-requires-clause-edge
small_narrowed-one-requires-clause-edge c = c.requires.shape.first_small c.requires.small

pub small_narrowed-two-requires-clause-edge : goal.small_narrowed-two-requires-clause-edge
small_narrowed-two-requires-clause-edge c = c.requires.shape.second_small c.requires.small

pub small_narrowed-requires-clause-edge : goal.small_narrowed-requires-clause-edge
small_narrowed-requires-clause-edge c = c.requires.shape.third_small c.requires.small

pub returns-clause-exact : goal.returns-clause-exact
returns-clause-exact c = λ k.
    let centre = centre_as_seen c.of_centre-centre.ensures.point (kept_column c.requires.x) (kept_column c.requires.y) in
    let sums : Sums = record { one = c.small_at-first.result; two = c.small_at-second.result; three = c.small_at-third.result } in
    covered_among c.args.self.now c.requires.shape c.args.x c.args.y sums
    (from_weights _ _ _ _
    (value_as_seen c.requires.shape.first_edge centre c.small_at-first.ensures.value refl)
    (value_as_seen c.requires.shape.second_edge centre c.small_at-second.ensures.value refl)
    (value_as_seen c.requires.shape.third_edge centre c.small_at-third.ensures.value refl))
    k c.args.count
    (c.small_narrowed-one.ensures.exact k) (c.small_narrowed-two.ensures.exact k) (c.small_narrowed.ensures.exact k)
    (kept_64 c.small_at-first.ensures.near (lit< tt)) (kept_64 c.small_at-second.ensures.near (lit< tt)) (kept_64 c.small_at-third.ensures.near (lit< tt))
    (omega (arith, ints)) (omega (arith, ints))
