-- What fragments make of a cell one after the other, and changes of some rows alone, for private clauses.
use Rattle.std.specs.Prelude.{◌≡◌, ℤ, pos, int_lt, false, if◌then◌else◌, List, [], ◌∷◌, Some, None}
use Rattle.triangle_raster.specs.declared.fragment.Fragment.{Fragment}
use Rattle.triangle_raster.specs.declared.vertex.Vertex.{Vertex}
use Rattle.triangle_raster.specs.Pixel.{delta_of}
use Rattle.triangle_raster.specs.Vertex.{corner}
use Rattle.fragment_ops.specs.declared.cell.Cell.{Cell}
use Rattle.fragment_ops.specs.declared.place.Place.{Place}
use Rattle.fragment_ops.specs.Cell.{cell_after_put}
use Rattle.fragment_ops.specs.Frame.{only_at}
use Rattle.fragment_ops.specs.State.{AreWithinOne}
use Rattle.texture_units.specs.declared.format.Format.TheVariants.{Rgba}
use Rattle.texture_units.specs.declared.environment.EnvMode.TheVariants.{Modulate}
use Rattle.triangle_draw.specs.declared.drawing.Drawing.{Drawing}
use Rattle.triangle_draw.specs.Drawing.{is_culled}
use Rattle.triangle_draw.specs.Triangle.{brought_by}
use Rattle.triangle_draw.specs.Unit.{UnitView}

-- the cell at a place after a fragment came to its own place; chapter 4
unfoldable pub cell_after_one : Drawing → Fragment → Place → Cell → Cell
cell_after_one drawing fragment = only_at fragment.x fragment.y (λ place. cell_after_put place drawing.fragments (brought_by drawing fragment))

-- the cell at a place after fragments came one after the other, each to its own place; chapter 4, the order own
unfoldable pub cell_after_all : Drawing → List Fragment → Place → Cell → Cell
cell_after_all drawing [] place old = old
cell_after_all drawing (fragment ∷ fragments) place old = cell_after_all drawing fragments place (cell_after_one drawing fragment place old)

-- a change of the rows below row y alone, in pixels from the lower side; own
unfoldable pub below_row : ℤ → (Place → Cell → Cell) → Place → Cell → Cell
below_row y change place old = if int_lt (pos place.row) y then change place old else old

-- no texture unit takes part; section 3.7.12
pub record IsPlain (drawing : Drawing) : Type 0 where
  pub no_first : drawing.first_unit ≡ None
  pub no_second : drawing.second_unit ≡ None

-- a unit multiplies a colour by one texel of RGBA; sections 3.7.7 and 3.7.12
pub record IsMultiplier (unit : UnitView) : Type 0 where
  pub nearest : unit.sampling.linear ≡ false
  pub modulates : unit.mode ≡ Modulate
  pub colours : unit.texture.format ≡ Rgba

-- this unit, which is unit 0, takes part alone, and multiplies a colour by one texel of RGBA; section 3.7.12
pub record MultipliesAlone (drawing : Drawing) (unit : UnitView) : Type 0 where
  pub first : drawing.first_unit ≡ Some unit
  pub no_second : drawing.second_unit ≡ None
  pub multiplies : IsMultiplier unit

-- the colours of three corners are 0 to 1; section 2.12.1
pub record HaveShades (corners : List Vertex) : Type 0 where
  pub one : AreWithinOne (corner corners 0).values
  pub two : AreWithinOne (corner corners 1).values
  pub three : AreWithinOne (corner corners 2).values

-- culling doesn't leave out the triangle of these corners; section 3.5.1
abbrev pub IsKept : Drawing → List Vertex → Type 0
IsKept drawing corners = is_culled drawing (delta_of corners drawing.view) ≡ false
