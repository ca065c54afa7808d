-- What a setup and a row stand for, and what holds of their fields.
use Rattle.std.specs.Prelude.{List}
use Rattle.triangle_raster.specs.declared.fragment.Fragment.{Fragment}
use Rattle.triangle_raster.specs.declared.setup.Setup.TheInside.{Inside as InsideSetup}
use Rattle.triangle_raster.specs.declared.row.Row.TheInside.{Inside as InsideRow}
use Rattle.triangle_raster.specs.Vertex.{IsArea}
use Rattle.triangle_raster.specs.Row.{Triangle, triangle_of}
use Rattle.triangle_raster.specs.Held.{AreRates, IsShape, IsWalk, walk_seen}

-- what it was made of
abbrev pub setup_seen : InsideSetup → Triangle
setup_seen s = triangle_of s.shape.corners s.shape.view s.area

-- the shape and the area keep their bounds
pub record IsSetup (s : InsideSetup) : Type 0 where
  pub shape_holds : IsShape s.shape
  pub rates_hold : AreRates s.shape s.rates
  pub area_holds : IsArea s.area

-- the fragments that are still to come
abbrev pub row_seen : InsideRow → List Fragment
row_seen r = walk_seen r.walk

-- the walk keeps its bounds
pub record IsRow (r : InsideRow) : Type 0 where
  pub walk_holds : IsWalk r.walk
