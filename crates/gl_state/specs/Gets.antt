-- The numbers that gets give of the private state; section 6.1. Those of its tracked part stand in the crate of tracked state.
use Rattle.std.specs.Prelude.{ℕ, ℤ, pos, ◌==◌, false, List, [], ◌∷◌, slice_index_or, Option, unwrap_or}
use Rattle.std.specs.Map.{lookup}
use Rattle.std.specs.Option.{option_map, option_or}
use Rattle.fixed_transform.specs.Stack.{top_of}
use Rattle.gl_tracked.specs.Gets.{integer_asked, enabled_asked, number_beside, number_of_truth}
use Rattle.gl_state.specs.Private.{PrivateView}
use Rattle.gl_state.specs.Settings.{place_of_unit}
use Rattle.gl_state.specs.Stacks.{current_of}

-- the list beside a name, in rows of names and lists; own
abbrev pub list_beside : List (ℕ × List ℤ) → ℕ → Option (List ℤ)
list_beside rows name = lookup (λ known. name == known) rows

-- a number as a list of it, where there is one; own
abbrev pub alone : Option ℤ → Option (List ℤ)
alone number = option_map (λ one. one ∷ []) number

-- the active unit as its place: 0 for TEXTURE0, else 1; section 3.7.12
unfoldable pub active_unit : PrivateView → ℕ
active_unit p = place_of_unit p.tracked.active

-- the rows of GetIntegerv that give a number of the settings: CULL_FACE_MODE, FRONT_FACE, SHADE_MODEL, DEPTH_FUNC, ALPHA_TEST_FUNC, BLEND_DST, BLEND_SRC, TEXTURE_BINDING_2D; tables 6.9, 6.10, 6.14 and 6.17
unfoldable pub setting_rows : PrivateView → List (ℕ × ℤ)
setting_rows p =
    (0x0B45, pos p.settings.cull_face) ∷
    (0x0B46, pos p.settings.front_face) ∷
    (0x0B54, pos p.settings.shade_model) ∷
    (0x0B74, pos p.settings.depth_func) ∷
    (0x0BC1, pos p.settings.alpha_func) ∷
    (0x0BE0, pos p.settings.dest_factor) ∷
    (0x0BE1, pos p.settings.source_factor) ∷
    (0x8069, pos (slice_index_or p.settings.bindings (active_unit p) 0)) ∷ []

-- the rows of GetIntegerv that give a limit: MAX_TEXTURE_SIZE and MAX_TEXTURE_UNITS; table 6.20, the values own
abbrev pub limit_rows : List (ℕ × ℤ)
limit_rows = (0x0D33, pos 256) ∷ (0x84E2, pos 2) ∷ []

-- the rows of GetIntegerv that give a rectangle: VIEWPORT and SCISSOR_BOX; tables 6.7 and 6.17
unfoldable pub rectangle_rows : PrivateView → List (ℕ × List ℤ)
rectangle_rows p = (0x0BA2, p.settings.viewport) ∷ (0x0C10, p.settings.scissor) ∷ []

-- what GetIntegerv gives for a name, if it takes it; section 6.1.1
unfoldable pub integers_asked : PrivateView → ℕ → Option (List ℤ)
integers_asked p name =
    option_or (alone (integer_asked p.tracked name))
    (option_or (alone (number_beside (setting_rows p) name))
    (option_or (alone (number_beside limit_rows name)) (list_beside (rectangle_rows p) name)))

-- the rows of GetFixedv: CURRENT_COLOR, DEPTH_CLEAR_VALUE, MODELVIEW_MATRIX, PROJECTION_MATRIX, TEXTURE_MATRIX of the active unit and COLOR_CLEAR_VALUE, matrices by columns; tables 6.4, 6.7 and 6.17
unfoldable pub fixed_rows : PrivateView → List (ℕ × List ℤ)
fixed_rows p =
    (0x0B00, p.settings.colour) ∷
    (0x0B73, p.settings.clear_depth ∷ []) ∷
    (0x0BA6, (top_of p.stacks.model_view).values) ∷
    (0x0BA7, (top_of p.stacks.projection).values) ∷
    (0x0BA8, (top_of (current_of p.stacks 0x1702 p.tracked.active)).values) ∷
    (0x0C22, p.settings.clear_colour) ∷ []

-- what GetFixedv gives for a name, if it takes it; section 6.1.1
unfoldable pub fixed_asked : PrivateView → ℕ → Option (List ℤ)
fixed_asked p name = list_beside (fixed_rows p) name

-- the rows of capabilities, by whether they are enabled: CULL_FACE, DEPTH_TEST, ALPHA_TEST, DITHER, BLEND, SCISSOR_TEST, and TEXTURE_2D of the active unit; tables 6.9, 6.10 and 6.14 to 6.17
unfoldable pub capability_rows : PrivateView → List (ℕ × ℤ)
capability_rows p =
    (0x0B44, number_of_truth p.settings.capabilities.cull_face) ∷
    (0x0B71, number_of_truth p.settings.capabilities.depth_test) ∷
    (0x0BC0, number_of_truth p.settings.capabilities.alpha_test) ∷
    (0x0BD0, number_of_truth p.settings.capabilities.dither) ∷
    (0x0BE2, number_of_truth p.settings.capabilities.blend) ∷
    (0x0C11, number_of_truth p.settings.capabilities.scissor_test) ∷
    (0x0DE1, number_of_truth (slice_index_or p.settings.capabilities.texture_2d (active_unit p) false)) ∷ []

-- what IsEnabled gives for a name, if it takes it: an array's flag or a capability's; section 6.1.1
unfoldable pub truth_asked : PrivateView → ℕ → Option (List ℤ)
truth_asked p name = alone (option_or (enabled_asked p.tracked name) (number_beside (capability_rows p) name))

-- the names of GetFixedv that give more than one number, and how many: CURRENT_COLOR, the matrices and COLOR_CLEAR_VALUE; section 6.1
abbrev pub fixed_lists : List (ℕ × ℕ)
fixed_lists = (0x0B00, 4) ∷ (0x0BA6, 16) ∷ (0x0BA7, 16) ∷ (0x0BA8, 16) ∷ (0x0C22, 4) ∷ []

-- the names of GetIntegerv that give more than one number, and how many: VIEWPORT and SCISSOR_BOX; section 6.1
abbrev pub integers_lists : List (ℕ × ℕ)
integers_lists = (0x0BA2, 4) ∷ (0x0C10, 4) ∷ []

-- how many numbers GetFixedv gives for a name where they are more than one, else 0; section 6.1
unfoldable pub fixed_length : ℕ → ℕ
fixed_length name = unwrap_or (lookup (λ known. name == known) fixed_lists) 0

-- how many numbers GetIntegerv gives for a name where they are more than one, else 0; section 6.1
unfoldable pub integers_length : ℕ → ℕ
integers_length name = unwrap_or (lookup (λ known. name == known) integers_lists) 0
