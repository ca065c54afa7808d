-- The vertex of an element, transformed; sections 2.8, 2.10 and 2.12. Which triangles there are stands in Triangles.antt, and in which memories arrays lie in Number.antt.
use Rattle.std.specs.Prelude.{◌≡◌, ℕ, ◌^◌, true, ℤ, pos, neg_ℤ, int_lt, if◌then◌else◌, List, [], ◌∷◌}
use Rattle.gl_memory.specs.Piece.{LiesIn}
use Rattle.gl_memory.specs.Segment.{Segment, byte_at}
use Rattle.gl_tracked.specs.declared.tracked.ArrayState.{ArrayState}
use Rattle.fixed_transform.specs.Matrix.{image, part}
use Rattle.triangle_raster.specs.declared.vertex.Vertex.{Vertex}
use Rattle.vertex_stage.specs.declared.stage.Stage.{Stage}
use Rattle.vertex_stage.specs.declared.stage.Texturing.{Texturing}
use Rattle.gl_tracked.specs.Element.{element_at}
use Rattle.gl_tracked.specs.Tracked.{IsArray}
use Rattle.vertex_stage.specs.Number.{element_parts, given_or}

-- a number clamped to lie between two others; own
abbrev pub clamped_within : ℤ → ℤ → ℤ → ℤ
clamped_within low high number = if int_lt number low then low else (if int_lt high number then high else number)

-- a coordinate clamped to 2048 in 16.16 fixed; own
unfoldable pub clamped_coordinate : ℤ → ℤ
clamped_coordinate number = clamped_within (neg_ℤ (pos (2 ^ 27))) (pos (2 ^ 27)) number

-- a part of a colour clamped to 0 to 1; section 2.12.1, for each vertex own
unfoldable pub clamped_shade : ℤ → ℤ
clamped_shade number = clamped_within (pos 0) (pos 65536) number

-- four parts, each changed alike
abbrev pub each_part : (ℤ → ℤ) → List ℤ → List ℤ
each_part change parts = change (part parts 0) ∷ change (part parts 1) ∷ change (part parts 2) ∷ change (part parts 3) ∷ []

-- the coordinates of the vertex at a place in clip space: of the model view and then the projection, clamped; section 2.10, the clamp own
unfoldable pub clip_position : Stage → (ℕ → List Segment) → ℕ → List ℤ
clip_position stage memories place =
    each_part clamped_coordinate (image stage.projection (image stage.model_view (element_parts stage.vertex memories place)))

-- red, green, blue and alpha of the vertex at a place, clamped; sections 2.7, 2.8 and 2.12.1
unfoldable pub colour_of : Stage → (ℕ → List Segment) → ℕ → List ℤ
colour_of stage memories place = each_part clamped_shade (given_or stage.colour stage.current_colour memories place)

-- s, t, r and q of the vertex at a place in one unit, by the unit's matrix and clamped; sections 2.7, 2.8 and 2.10.2, the clamp own
unfoldable pub coordinates_of : Texturing → (ℕ → List Segment) → ℕ → List ℤ
coordinates_of unit memories place = each_part clamped_coordinate (image unit.matrix (given_or unit.coordinates unit.current memories place))

-- a colour, and s, t and q of the coordinates in two units; section 3.7.12, that r has no use own
abbrev pub ten_values : List ℤ → List ℤ → List ℤ → List ℤ
ten_values colour first second =
    part colour 0 ∷ part colour 1 ∷ part colour 2 ∷ part colour 3 ∷
    part first 0 ∷ part first 1 ∷ part first 3 ∷ part second 0 ∷ part second 1 ∷ part second 3 ∷ []

-- the ten values that the vertex at a place carries: its colour, and s, t, q of unit 0 and of unit 1; section 3.5.1
unfoldable pub values_of : Stage → (ℕ → List Segment) → ℕ → List ℤ
values_of stage memories place =
    ten_values (colour_of stage memories place) (coordinates_of stage.first_unit memories place) (coordinates_of stage.second_unit memories place)

-- the vertex of a clip position and the values that it carries
abbrev pub vertex_at : List ℤ → List ℤ → Vertex
vertex_at position values = record { x = part position 0; y = part position 1; z = part position 2; w = part position 3; values = values }

-- the vertex of the elements at a place; sections 2.8, 2.10 and 2.12
unfoldable pub vertex_of : Stage → (ℕ → List Segment) → ℕ → Vertex
vertex_of stage memories place = vertex_at (clip_position stage memories place) (values_of stage memories place)

-- ten values: the colour is that of the first ten, and all else that of the second ten
abbrev pub colour_and_others : List ℤ → List ℤ → List ℤ
colour_and_others colour others =
    part colour 0 ∷ part colour 1 ∷ part colour 2 ∷ part colour 3 ∷
    part others 4 ∷ part others 5 ∷ part others 6 ∷ part others 7 ∷ part others 8 ∷ part others 9 ∷ []

-- a vertex with the colour of another; section 2.12.7
unfoldable pub with_colour_from : Vertex → Vertex → Vertex
with_colour_from other vertex = record vertex { values = colour_and_others other.values vertex.values }

-- the three corners of a triangle of the elements at three places: where shading is flat, all have the colour of the third; section 2.12.7
unfoldable pub corners_of : Stage → (ℕ → List Segment) → ℕ → ℕ → ℕ → List Vertex
corners_of stage memories first second third =
    let last = vertex_of stage memories third in
    if stage.is_smooth
    then vertex_of stage memories first ∷ vertex_of stage memories second ∷ last ∷ []
    else with_colour_from last (vertex_of stage memories first) ∷ with_colour_from last (vertex_of stage memories second) ∷ last ∷ []

-- each array has elements of numbers that there are; own
pub record HasArrays (stage : Stage) : Type 0 where
  pub vertex : IsArray stage.vertex
  pub colour : IsArray stage.colour
  pub first_unit : IsArray stage.first_unit.coordinates
  pub second_unit : IsArray stage.second_unit.coordinates

-- memories have the same bytes where the element at a place of an array lies; sections 2.8 and 2.9
abbrev pub AgreeOn : (ℕ → List Segment) → (ℕ → List Segment) → ArrayState → ℕ → Type 0
AgreeOn m n array place = (at : ℕ) → LiesIn at (element_at array place) → byte_at (m array.buffer) at ≡ byte_at (n array.buffer) at

-- the same, if the array is enabled; section 2.8
abbrev pub AgreeIn : (ℕ → List Segment) → (ℕ → List Segment) → ArrayState → ℕ → Type 0
AgreeIn m n array place = array.enabled ≡ true → AgreeOn m n array place

-- memories have the same bytes where the elements at a place lie, of the vertices and of each other array that is enabled; sections 2.8 and 2.9
pub record AgreeAt (stage : Stage) (m n : ℕ → List Segment) (place : ℕ) : Type 0 where
  pub vertex : AgreeOn m n stage.vertex place
  pub colour : AgreeIn m n stage.colour place
  pub first_unit : AgreeIn m n stage.first_unit.coordinates place
  pub second_unit : AgreeIn m n stage.second_unit.coordinates place

-- where memories agree at the three places of a triangle, its corners are the same; own
abbrev pub CornersAgree : Stage → (ℕ → List Segment) → (ℕ → List Segment) → ℕ → ℕ → ℕ → Type 0
CornersAgree stage m n first second third =
    AgreeAt stage m n first → AgreeAt stage m n second → AgreeAt stage m n third → corners_of stage m first second third ≡ corners_of stage n first second third
