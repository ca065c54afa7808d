-- What one triangle makes of one cell: the new cell as a function of its place and of the old cell. No other cell is looked at.
use Rattle.std.specs.Prelude.{ℕ, ◌+◌, ◌-◌, ◌*◌, ◌/◌, ℤ, pos, unsigned_abs, if◌then◌else◌, List, [], ◌∷◌, map, Option, Some, None}
use Rattle.triangle_raster.specs.declared.fragment.Fragment.{Fragment}
use Rattle.triangle_raster.specs.declared.vertex.Vertex.{Vertex}
use Rattle.triangle_raster.specs.declared.vertex.View.{View}
use Rattle.triangle_raster.specs.Pixel.{delta_of, pixel_of}
use Rattle.fragment_ops.specs.declared.cell.Cell.{Cell}
use Rattle.fragment_ops.specs.declared.place.Place.{Place}
use Rattle.fragment_ops.specs.Blend.{parts}
use Rattle.fragment_ops.specs.Cell.{Fragment as Brought, cell_after_put, is_within}
use Rattle.fragment_ops.specs.State.{byte_of, number_at}
use Rattle.texture_units.specs.Environment.{combined}
use Rattle.texture_units.specs.Sample.{sampled}
use Rattle.triangle_draw.specs.declared.drawing.Drawing.{Drawing}
use Rattle.triangle_draw.specs.Unit.{UnitView}
use Rattle.triangle_draw.specs.Drawing.{is_culled}

-- a depth between those of the near and the far plane, which are fixed numbers of 0 to 1: 0 becomes that of the near one, 65535 that of the far one; section 2.10.1, the rounding own
unfoldable pub depth_between : List ℤ → ℕ → ℕ
depth_between range depth = (unsigned_abs (number_at range 0) * (65535 - depth) + unsigned_abs (number_at range 1) * depth) / 65536

-- the colour of a fragment in bytes: its first four values; section 3.5.1, the rounding own
unfoldable pub colour_of : Fragment → List ℕ
colour_of fragment = map (λ part. byte_of (number_at fragment.values part)) parts

-- what a unit's texture gives a fragment whose values from a place on are its coordinates s, t and q; section 3.7.8
unfoldable pub texel_of : UnitView → Fragment → ℕ → List ℕ
texel_of unit fragment at =
    sampled unit.texture unit.sampling (number_at fragment.values at) (number_at fragment.values (at + 1)) (number_at fragment.values (at + 2))

-- a colour after a unit, if it takes part: what its mode makes of the colour and of the unit's texel; section 3.7.12
abbrev pub colour_after_unit : Option UnitView → Fragment → ℕ → List ℕ → List ℕ
colour_after_unit None fragment at colour = colour
colour_after_unit (Some unit) fragment at colour = combined unit.mode unit.texture.format colour (texel_of unit fragment at) unit.constant

-- the colour of a fragment after unit 0, whose coordinates are its values from 4 on, and then after unit 1, whose coordinates are those from 7 on; section 3.7.12
unfoldable pub textured_colour : Drawing → Fragment → List ℕ
textured_colour drawing fragment =
    colour_after_unit drawing.second_unit fragment 7 (colour_after_unit drawing.first_unit fragment 4 (colour_of fragment))

-- what a fragment brings to its place: its depth in the window, and its colour after the texture units; sections 2.10.1, 3.5.1 and 3.7.12
unfoldable pub brought_by : Drawing → Fragment → Brought
brought_by drawing fragment = record { depth = depth_between drawing.depth_range fragment.depth; colour = textured_colour drawing fragment }

-- the cell at a place after a fragment came there, or none; chapter 4
abbrev pub cell_after_fragment : Drawing → Option Fragment → Place → Cell → Cell
cell_after_fragment drawing None place old = old
cell_after_fragment drawing (Some fragment) place old = cell_after_put place drawing.fragments (brought_by drawing fragment) old

-- a viewport as a rectangle of x, y, width and height, in pixels; section 2.10.1
abbrev pub rectangle_of : View → List ℤ
rectangle_of view = view.x ∷ view.y ∷ view.width ∷ view.height ∷ []

-- the cell at a place after a triangle of these corners: it stays where the triangle is culled, outside the viewport, and where the triangle has no pixel; sections 2.12.1, 3.5.1 and 4.1, that nothing is drawn outside the viewport own
unfoldable pub cell_after_triangle : Drawing → List Vertex → Place → Cell → Cell
cell_after_triangle drawing corners place old =
    if is_culled drawing (delta_of corners drawing.view) then old else (
    if is_within (rectangle_of drawing.view) place
    then cell_after_fragment drawing (pixel_of corners drawing.view (pos place.column) (pos place.row)) place old
    else old)
