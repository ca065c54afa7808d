use Rattle.std.proofs.Common.{sym}
use Rattle.triangle_raster.proofs.Fragments.{no_fragment_without_depth}
use Rattle.triangle_raster.proofs.fragment.kept.Goals as goal

pub returns-in-None : goal.returns-in-None
returns-in-None c = no_fragment_without_depth _ _ _ _ (sym c.in-None.ensures)
