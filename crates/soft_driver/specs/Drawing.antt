-- What a draw goes by, as the private state of a context and the objects have it. What a draw makes of the frame by that stands in triangle_draw.
use Rattle.std.specs.Prelude.{ℕ, ◌==◌, ℤ, false, if◌then◌else◌, List, [], map, slice_index_or, Option, Some, None}
use Rattle.fixed_transform.specs.Stack.{top_of}
use Rattle.triangle_raster.specs.declared.vertex.View.{View}
use Rattle.fragment_ops.specs.State.{byte_of, number_at}
use Rattle.texture_units.specs.declared.sampling.Sampling.{Sampling}
use Rattle.texture_units.specs.Texture.{TextureView, is_complete}
use Rattle.gl_objects.specs.declared.texture.TextureObject.{TextureObject}
use Rattle.gl_objects.specs.Textures.{texture_in}
use Rattle.gl_objects.specs.View.{ObjectsView}
use Rattle.gl_tracked.specs.Tracked.{first_array}
use Rattle.vertex_stage.specs.declared.stage.Stage.{Stage}
use Rattle.vertex_stage.specs.declared.stage.Texturing.{Texturing}
use Rattle.triangle_draw.specs.declared.drawing.Drawing.{Drawing}
use Rattle.triangle_draw.specs.Unit.{UnitView}
use Rattle.gl_state.specs.Event.{texture_bound}
use Rattle.gl_state.specs.Images.{mode_of}
use Rattle.gl_state.specs.Private.{PrivateView}
use Rattle.gl_state.specs.Settings.{fragment_state_of}
use Rattle.gl_state.specs.Stacks.{texture_of}

-- what a vertex takes in the unit at place 0 or 1: its array, its current coordinates, and the top of its stack; sections 2.7, 2.8 and 2.10.2
unfoldable pub texturing_of : PrivateView → ℕ → Texturing
texturing_of state unit = record {
  coordinates = slice_index_or state.tracked.texture unit first_array;
  current = slice_index_or state.settings.coordinates unit [];
  matrix = top_of (texture_of state.stacks unit);
}

-- what vertices are made from: arrays, the current colour, both units, the tops of the stacks, and SMOOTH or another shading; sections 2.7, 2.8, 2.10.2 and 2.12.7
unfoldable pub stage_of : PrivateView → Stage
stage_of state = record {
  vertex = state.tracked.vertex;
  colour = state.tracked.colour;
  current_colour = state.settings.colour;
  first_unit = texturing_of state 0;
  second_unit = texturing_of state 1;
  model_view = top_of state.stacks.model_view;
  projection = top_of state.stacks.projection;
  is_smooth = state.settings.shade_model == 0x1D01;
}

-- a viewport of x, y, width and height; section 2.10.1
unfoldable pub view_of : List ℤ → View
view_of viewport = record { x = number_at viewport 0; y = number_at viewport 1; width = number_at viewport 2; height = number_at viewport 3 }

-- the colour of the environment of the unit at place 0 or 1, in bytes; section 3.7.12, the rounding own
unfoldable pub constant_of : PrivateView → ℕ → List ℕ
constant_of state unit = map byte_of (slice_index_or state.settings.environment_colour unit [])

-- the unit at place 0 or 1 with this image, which is read so: what a texel makes of a colour is told by the unit's environment; section 3.7.12
unfoldable pub unit_with : PrivateView → ℕ → Sampling → TextureView → UnitView
unit_with state unit sampling image = record {
  texture = image;
  sampling = sampling;
  mode = mode_of (slice_index_or state.settings.environment_mode unit 0);
  constant = constant_of state unit;
}

-- the unit at place 0 or 1 with an image, if there is one and it is complete; section 3.7.9
abbrev pub unit_if_complete : PrivateView → ℕ → Sampling → Option TextureView → Option UnitView
unit_if_complete state unit sampling None = None
unit_if_complete state unit sampling (Some image) = if is_complete image sampling then Some (unit_with state unit sampling image) else None

-- the unit at place 0 or 1 with a texture, if there is one, and its image is complete; section 3.7.9
abbrev pub unit_with_texture : PrivateView → ℕ → Option TextureObject → Option UnitView
unit_with_texture state unit None = None
unit_with_texture state unit (Some texture) = unit_if_complete state unit texture.sampling texture.image

-- the unit at place 0 or 1, if it takes part in a draw: TEXTURE_2D is enabled there, and the texture that is bound there exists and is complete; sections 3.7.9, 3.7.12 and 3.7.14
unfoldable pub unit_of : PrivateView → ObjectsView → ℕ → Option UnitView
unit_of state objects unit =
    if slice_index_or state.settings.capabilities.texture_2d unit false then unit_with_texture state unit (texture_in objects (texture_bound state unit)) else None

-- what a draw goes by: vertices, the viewport, the depths of its planes, culling, both texture units, and what becomes of fragments; sections 2.10.1, 2.12.1, 3.5.1, 3.7.14 and chapter 4
unfoldable pub drawing_of : PrivateView → ObjectsView → Drawing
drawing_of state objects = record {
  stage = stage_of state;
  view = view_of state.settings.viewport;
  depth_range = state.settings.depth_range;
  culls = state.settings.capabilities.cull_face;
  cull_face = state.settings.cull_face;
  front_face = state.settings.front_face;
  first_unit = unit_of state objects 0;
  second_unit = unit_of state objects 1;
  fragments = fragment_state_of state.settings;
}
