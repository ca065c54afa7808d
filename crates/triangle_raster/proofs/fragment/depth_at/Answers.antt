use Rattle.std.proofs.Common.{◌∙◌, sym, lit<}
use Rattle.triangle_raster.specs.Held.{sums_seen}
use Rattle.triangle_raster.proofs.Bounds.{kept_32, kept_128}
use Rattle.triangle_raster.proofs.Fragments.{z_as_kept, w_as_kept, some_depth, none_depth}
use Rattle.triangle_raster.proofs.fragment.depth_at.Goals as goal

pub depth-requires-clause-positive : goal.depth-requires-clause-positive
depth-requires-clause-positive c = (c.is_between.ensures.between c.if-is_between.true).0

pub depth-requires-clause-from_near : goal.depth-requires-clause-from_near
depth-requires-clause-from_near c = (c.is_between.ensures.between c.if-is_between.true).1

pub depth-requires-clause-to_far : goal.depth-requires-clause-to_far
depth-requires-clause-to_far c = (c.is_between.ensures.between c.if-is_between.true).2

pub returns-then-is_between : goal.returns-then-is_between
returns-then-is_between c =
    some_depth c.args.corners.now (sums_seen c.args.sums.now)
    (kept_128 c.weighted-z.ensures.near (lit< tt) ∙ z_as_kept c.args.corners.now _ c.weighted-z.ensures.value
    (kept_32 c.requires.corners.one.deep (lit< tt)) (kept_32 c.requires.corners.two.deep (lit< tt)) (kept_32 c.requires.corners.three.deep (lit< tt)))
    (kept_128 c.weighted-w.ensures.near (lit< tt) ∙ w_as_kept c.args.corners.now _ c.weighted-w.ensures.value
    (kept_32 c.requires.corners.one.divisor (lit< tt)) (kept_32 c.requires.corners.two.divisor (lit< tt)) (kept_32 c.requires.corners.three.divisor (lit< tt)))
    (sym c.is_between.ensures.test ∙ c.if-is_between.true)
    c.depth.ensures

pub returns-else-is_between : goal.returns-else-is_between
returns-else-is_between c =
    none_depth c.args.corners.now (sums_seen c.args.sums.now)
    (kept_128 c.weighted-z.ensures.near (lit< tt) ∙ z_as_kept c.args.corners.now _ c.weighted-z.ensures.value
    (kept_32 c.requires.corners.one.deep (lit< tt)) (kept_32 c.requires.corners.two.deep (lit< tt)) (kept_32 c.requires.corners.three.deep (lit< tt)))
    (kept_128 c.weighted-w.ensures.near (lit< tt) ∙ w_as_kept c.args.corners.now _ c.weighted-w.ensures.value
    (kept_32 c.requires.corners.one.divisor (lit< tt)) (kept_32 c.requires.corners.two.divisor (lit< tt)) (kept_32 c.requires.corners.three.divisor (lit< tt)))
    (sym c.is_between.ensures.test ∙ c.if-is_between.false)
