use Rattle.std.proofs.Common.{arith, lit<}
use Rattle.std.proofs.lemmas.Int.{ints}
use Rattle.triangle_raster.proofs.Bounds.{kept_128}
use Rattle.triangle_raster.proofs.Spans.{covered_among}
use Rattle.triangle_raster.proofs.shape.Shape.span.Goals as goal

pub returns-clause-exact : goal.returns-clause-exact
returns-clause-exact c = λ x y e k.
    covered_among c.args.self.now c.requires.shape x y c.args.sums.now e k c.args.count
    (c.narrowed-one.ensures.exact k) (c.narrowed-two.ensures.exact k) (c.narrowed.ensures.exact k)
    (kept_128 c.requires.near.near_one (lit< tt)) (kept_128 c.requires.near.near_two (lit< tt)) (kept_128 c.requires.near.near_three (lit< tt))
    (omega (arith, ints)) (omega (arith, ints))
