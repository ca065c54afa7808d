-- What holds of the rest of a row whose depth and first values are carried.
use Rattle.std.specs.Prelude.{ℕ}
use Rattle.triangle_raster.specs.declared.walk.Walk.{Walk}
use Rattle.triangle_raster.specs.Held.{IsWalk}
use Rattle.triangle_raster.specs.Shaded.{CarriesFirst}

-- the walk keeps its bounds, and carries depth and so many values
pub record IsShaded (count : ℕ) (w : Walk) : Type 0 where
  pub walk_holds : IsWalk w
  pub carries_first : CarriesFirst count w.rates
