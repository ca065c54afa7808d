use Rattle.std.proofs.Common.{refl, ◌∙◌}
use Rattle.triangle_raster.proofs.Walks.{look_is}
use Rattle.triangle_raster.proofs.row.Row.look.Goals as goal

pub returns-clause-next : goal.returns-clause-next
returns-clause-next c =
    c.spot.ensures
    ∙ look_is _ c.seek-found.ensures.holds (c.seek-found.ensures.seen ∙ c.self.view_is) c.seek-found.result c.seek-found.ensures.none c.seek-found.ensures.some refl refl
