use Rattle.std.proofs.Common.{refl, ◌∙◌}
use Rattle.triangle_raster.proofs.Walks.{first_here, none_first, none_rest, rest_here}
use Rattle.triangle_raster.proofs.row.Row.next.Goals as goal

pub returns-in-Some-clause-next : goal.returns-in-Some-clause-next
returns-in-Some-clause-next c =
    first_here _ c.seek.ensures.holds c.in-Some.ensures.some.0 _ c.in-Some.ensures.some.1 (c.seek.ensures.seen ∙ c.self.view_is) c.fragment-fragment.ensures

pub returns-in-Some-clause-left : goal.returns-in-Some-clause-left
returns-in-Some-clause-left c =
    rest_here _ c.seek.ensures.holds c.in-Some.ensures.some.0 _ c.in-Some.ensures.some.1 (c.seek.ensures.seen ∙ c.self.view_is) c.step.ensures.seen

pub returns-in-None-clause-next : goal.returns-in-None-clause-next
returns-in-None-clause-next c = none_first _ c.seek.ensures.holds (c.seek.ensures.seen ∙ c.self.view_is) (c.in-None.ensures.none refl)

pub returns-in-None-clause-left : goal.returns-in-None-clause-left
returns-in-None-clause-left c = none_rest _ c.seek.ensures.holds (c.seek.ensures.seen ∙ c.self.view_is) (c.in-None.ensures.none refl)
