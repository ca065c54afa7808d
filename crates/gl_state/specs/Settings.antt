-- What calls set besides stacks, tracked state and errors, its values at the start, and what fragment operations take of it. No driver, batch or front stands here.
use Rattle.std.specs.Prelude.{ℕ, ◌==◌, ℤ, pos, neg_ℤ, ◌≤ℤ◌, int_lt, if◌then◌else◌, Bool, true, false, List, [], ◌∷◌, map, slice_set, All}
use Rattle.fragment_ops.specs.declared.state.FragmentState.{FragmentState}
use Rattle.fragment_ops.specs.State.{number_at, AreWithinOne, IsOneOf, IsRectangle, IsWithinOne}
use Rattle.gl_tracked.specs.Count.{count_of}
use Rattle.gl_tracked.specs.Enumerants.{comparisons, dest_factors, environment_modes, faces, shadings, source_factors, windings}
use Rattle.gl_tracked.specs.Names.{binding_after}
use Rattle.gl_state.specs.declared.settings.Capabilities.{Capabilities}
use Rattle.gl_state.specs.declared.settings.Settings.{Settings}

-- 1 as a 16.16 fixed number; section 2.3
abbrev pub one : ℤ
one = pos 65536

-- every capability is disabled but dithering; chapters 2 to 4
abbrev pub first_capabilities : Capabilities
first_capabilities = record {
  texture_2d = false ∷ false ∷ [];
  cull_face = false;
  alpha_test = false;
  blend = false;
  dither = true;
  depth_test = false;
  scissor_test = false;
}

-- a rectangle of these sides at the origin: x, y, width and height in pixels; own
abbrev pub whole_frame : ℕ → ℕ → List ℤ
whole_frame width height = pos 0 ∷ pos 0 ∷ pos width ∷ pos height ∷ []

-- the colour that is 0 in each part; own
abbrev pub no_colour : List ℤ
no_colour = pos 0 ∷ pos 0 ∷ pos 0 ∷ pos 0 ∷ []

-- the settings of a context with a frame of these sides at the start; tables 6.4 to 6.20
unfoldable pub first_settings : ℕ → ℕ → Settings
first_settings width height = record {
  colour = one ∷ one ∷ one ∷ one ∷ [];
  normal = pos 0 ∷ pos 0 ∷ one ∷ [];
  coordinates = (pos 0 ∷ pos 0 ∷ pos 0 ∷ one ∷ []) ∷ (pos 0 ∷ pos 0 ∷ pos 0 ∷ one ∷ []) ∷ [];
  capabilities = first_capabilities;
  viewport = whole_frame width height;
  scissor = whole_frame width height;
  depth_range = pos 0 ∷ one ∷ [];
  shade_model = 0x1D01;
  front_face = 0x901;
  cull_face = 0x405;
  alpha_func = 0x207;
  alpha_reference = pos 0;
  depth_func = 0x201;
  source_factor = 1;
  dest_factor = 0;
  colour_mask = true ∷ true ∷ true ∷ true ∷ [];
  depth_mask = true;
  clear_colour = no_colour;
  clear_depth = one;
  bindings = 0 ∷ 0 ∷ [];
  environment_mode = 0x2100 ∷ 0x2100 ∷ [];
  environment_colour = no_colour ∷ no_colour ∷ [];
}

-- a unit as its place: 0 for TEXTURE0, else 1; sections 2.7 and 3.7.12
abbrev pub place_of_unit : ℕ → ℕ
place_of_unit unit = if unit == 0x84C0 then 0 else 1

-- capabilities with another value of one: CULL_FACE, DEPTH_TEST, ALPHA_TEST, DITHER, BLEND, SCISSOR_TEST, else TEXTURE_2D of the unit at a place; chapters 2 to 4
unfoldable pub with_capability : Capabilities → ℕ → ℕ → Bool → Capabilities
with_capability capabilities place cap is_on =
    if cap == 0x0B44 then record capabilities { cull_face = is_on } else (
    if cap == 0x0B71 then record capabilities { depth_test = is_on } else (
    if cap == 0x0BC0 then record capabilities { alpha_test = is_on } else (
    if cap == 0x0BD0 then record capabilities { dither = is_on } else (
    if cap == 0x0BE2 then record capabilities { blend = is_on } else (
    if cap == 0x0C11 then record capabilities { scissor_test = is_on } else record capabilities { texture_2d = slice_set capabilities.texture_2d place is_on })))))

-- settings after these textures were deleted: the binding of each unit is 0 where it was one of them; section 3.7.11
unfoldable pub without_textures : List ℕ → Settings → Settings
without_textures names settings = record settings { bindings = map (binding_after names) settings.bindings }

-- a number clamped to lie between two others; own
abbrev pub clamped_within : ℤ → ℤ → ℤ → ℤ
clamped_within low high number = if int_lt number low then low else (if int_lt high number then high else number)

-- a fixed number clamped to 0 to 1; sections 2.10.1, 3.7.12, 4.1.4 and 4.2.3
abbrev pub clamped_to_one : ℤ → ℤ
clamped_to_one number = clamped_within (pos 0) one number

-- the place of a viewport clamped to 1024 pixels from zero; section 2.10.1, the bound own
abbrev pub clamped_origin : ℤ → ℤ
clamped_origin number = clamped_within (neg_ℤ (pos 1024)) (pos 1024) number

-- the side of a viewport clamped to 512 pixels; section 2.10.1, the bound own
abbrev pub clamped_side : ℤ → ℤ
clamped_side number = clamped_within (pos 0) (pos 512) number

-- x and y of a rectangle are at most 1024 pixels from zero, and its width and height 0 to 512; section 2.10.1, the bounds own
abbrev pub IsViewport : List ℤ → Type 0
IsViewport (x ∷ y ∷ width ∷ height ∷ []) =
    (neg_ℤ (pos 1024) ≤ℤ x) × (x ≤ℤ pos 1024) × (neg_ℤ (pos 1024) ≤ℤ y) × (y ≤ℤ pos 1024)
    × (pos 0 ≤ℤ width) × (width ≤ℤ pos 512) × (pos 0 ≤ℤ height) × (height ≤ℤ pos 512)
IsViewport _ = ⊥

-- the parts of the clear colour and of the environments' colours, the clear depth, the depths of the range and the reference of the alpha test are 0 to 1, and the viewport is within its bounds; sections 2.10.1, 3.7.12, 4.1.4 and 4.2.3
pub record AreClamped (settings : Settings) : Type 0 where
  pub clear_colour : AreWithinOne settings.clear_colour
  pub clear_depth : IsWithinOne settings.clear_depth
  pub near : IsWithinOne (number_at settings.depth_range 0)
  pub far : IsWithinOne (number_at settings.depth_range 1)
  pub alpha_reference : IsWithinOne settings.alpha_reference
  pub viewport : IsViewport settings.viewport
  pub environments : All AreWithinOne settings.environment_colour

-- the modes of environments by their numbers; section 3.7.12
abbrev pub mode_numbers : List ℕ
mode_numbers = map count_of environment_modes

-- the enumerants are such as calls accept, and the scissor has sides; sections 2.12.1, 2.12.7, 3.5.1, 3.7.12, 4.1.2, 4.1.4, 4.1.6 and 4.1.7
pub record AreAccepted (settings : Settings) : Type 0 where
  pub shade_model : IsOneOf shadings settings.shade_model
  pub front_face : IsOneOf windings settings.front_face
  pub cull_face : IsOneOf faces settings.cull_face
  pub scissor : IsRectangle settings.scissor
  pub alpha_func : IsOneOf comparisons settings.alpha_func
  pub depth_func : IsOneOf comparisons settings.depth_func
  pub source_factor : IsOneOf source_factors settings.source_factor
  pub dest_factor : IsOneOf dest_factors settings.dest_factor
  pub environments : All (IsOneOf mode_numbers) settings.environment_mode

-- what fragment operations take of settings; sections 4.1.2 to 4.2.3
unfoldable pub fragment_state_of : Settings → FragmentState
fragment_state_of settings = record {
  scissor_on = settings.capabilities.scissor_test;
  scissor = settings.scissor;
  alpha_on = settings.capabilities.alpha_test;
  alpha_func = settings.alpha_func;
  alpha_reference = settings.alpha_reference;
  depth_on = settings.capabilities.depth_test;
  depth_func = settings.depth_func;
  depth_mask = settings.depth_mask;
  blend_on = settings.capabilities.blend;
  source_factor = settings.source_factor;
  dest_factor = settings.dest_factor;
  colour_mask = settings.colour_mask;
  clear_colour = settings.clear_colour;
  clear_depth = settings.clear_depth;
}
