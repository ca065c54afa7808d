use Rattle.std.proofs.Common.{sym, ◌∙◌, lit<}
use Rattle.triangle_raster.proofs.Bounds.{kept_32}
use Rattle.triangle_raster.proofs.Evens.{even_depth-kept, even_depth-none, even_depth-some}
use Rattle.triangle_raster.proofs.fragment.even_depth.Goals as goal

pub returns-then-is_corner_between : goal.returns-then-is_corner_between
returns-then-is_corner_between c =
    even_depth-some _ _ (sym c.is_corner_between.ensures.test ∙ c.if-is_corner_between.true) c.corner_depth.ensures
    ∙ even_depth-kept (kept_32 c.requires.z (lit< tt)) (kept_32 c.requires.w (lit< tt))

pub returns-else-is_corner_between : goal.returns-else-is_corner_between
returns-else-is_corner_between c =
    even_depth-none _ _ (sym c.is_corner_between.ensures.test ∙ c.if-is_corner_between.false)
    ∙ even_depth-kept (kept_32 c.requires.z (lit< tt)) (kept_32 c.requires.w (lit< tt))
